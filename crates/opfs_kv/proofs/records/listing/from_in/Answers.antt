use Rattle.std.proofs.Common.{◌≡◌, [], ◌∷◌, ◌++◌, List, append_assoc, rules, ap, subst, ◌∙◌}
use Rattle.std.specs.Map.{keys_of}
use Rattle.opfs_base.specs.Texts.{Text}
use Rattle.opfs_kv.specs.Records.Indexes.{Places}
use Rattle.opfs_kv.specs.Records.Maps.{keys_from}
use Rattle.opfs_kv.proofs.records.Listed.{range-keys}
use Rattle.opfs_kv.proofs.records.listing.from_in.Goals as goal

pub loop-key-init : goal.loop-key-init
loop-key-init c =
    let none : c.new-keys.result.items ≡ [] = search rules in
    ap (λ (xs : List Text). xs ++ keys_of c.into_iter-key-iterator.result) none ∙ ap (λ (es : Places). keys_of es) (c.into_iter-key-iterator.ensures.into_iter_gives ∙ c.range-key-items.ensures.between tt) ∙ range-keys c.args.from.now c.args.places.now.entries

pub loop-key-preserved : goal.loop-key-preserved
loop-key-preserved c =
    let whole : List Text = keys_from c.args.from.now (keys_of c.args.places.now.entries) in
    ap (λ (xs : List Text). xs ++ keys_of c.next.new.self) c.in_ok-add.ensures
    ∙ append_assoc c.loop-key.keys.items (c.in-Some.key.now ∷ []) (keys_of c.next.new.self)
    ∙ subst (λ (es : Places). c.loop-key.keys.items ++ keys_of es ≡ whole) c.in-Some.ensures.steps c.loop-key.invariant
