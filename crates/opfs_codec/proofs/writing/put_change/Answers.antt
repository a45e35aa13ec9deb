use Rattle.std.proofs.Common.{◌≡◌, ◌++◌, ◌∷◌, List, ℕ, append_assoc, ap, ◌∙◌}
use Rattle.std.specs.Int.{w64, to_le_bytes}
use Rattle.opfs_codec.specs.declared.change.Format.TheVariants.{New}
use Rattle.opfs_codec.specs.Fields.{plain}
use Rattle.opfs_codec.specs.Spelling.{key, path, extents, spelling}
use Rattle.opfs_codec.proofs.writing.put_change.Goals as goal

joined : (old k p a b e one two three four : List ℕ) → one ≡ old ++ 5 ∷ (k ++ p) → two ≡ one ++ a → three ≡ two ++ b → four ≡ three ++ e → four ≡ old ++ 5 ∷ (k ++ (p ++ (a ++ (b ++ e))))
joined old k p a b e one two three four is_one is_two is_three is_four =
    is_four
    ∙ ap (λ (x : List ℕ). x ++ e) (is_three ∙ ap (λ (x : List ℕ). x ++ b) (is_two ∙ ap (λ (x : List ℕ). x ++ a) is_one))
    ∙ simp append_assoc

pub returns-in-Content-clause-items : goal.returns-in-Content-clause-items
unfolding plain spelling
returns-in-Content-clause-items c =
    rw c.in-Content.is
    (joined c.args.into.now.items (key New c.in-Content.unit.now) (path c.in-Content.path.now) (to_le_bytes w64 c.in-Content.stamp) (to_le_bytes w64 c.in-Content.size) (extents c.in-Content.runs.now)
    _ _ _ _ c.put_place-in-Content.ensures.items c.put_u64-in-Content.ensures.items c.put_u64-in-Content-2.ensures.items c.put_extents.ensures.items)
