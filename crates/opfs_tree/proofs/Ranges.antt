-- What a range from a path on begins with.
use Rattle.std.proofs.Common.{◌≡◌, ◌&&◌, Bool, true, false, cond, List, [], ◌∷◌, refl, sym, ap, ◌∙◌}
use Rattle.std.specs.List.{AllByRecursion}
use Rattle.std.specs.List.Sorted.{IsStrictlySortedBy}
use Rattle.std.specs.Map.{keys_of}
use Rattle.std.specs.Ordering.{is_le}
use Rattle.std.specs.declared.cmp.Ordering.TheVariants.{Less}
use Rattle.std.specs.declared.ops.Bound.TheVariants.{Included, Unbounded}
use Rattle.std.specs.BTreeMap.Range.{entries_between}
use Rattle.std.proofs.lemmas.Map.Keys.{sorted_head, sorted_tail}
use Rattle.opfs_base.specs.Texts.{Text}
use Rattle.opfs_base.specs.Places.{begins_with}
use Rattle.opfs_tree.specs.Units.{UnitRows, path_cmp, below, front}
use Rattle.opfs_tree.proofs.Orders.{begins_le, convex}

pub both_ways : (b : Bool) → b ≡ true → b ≡ false → ⊥
both_ways b h g = let e : true ≡ false = sym h ∙ g in cc

-- Behind a row that is not below a path, and not before it, nothing is below it.
pub none_after : (p a : List Text) (es : UnitRows) → is_le (path_cmp p a) ≡ true → begins_with p a ≡ false → AllByRecursion (λ y. path_cmp a y ≡ Less) (keys_of es) → below p es ≡ []
none_after p a [] ge out all = refl
none_after p a (e ∷ es) ge out all =
    elim (begins_with p e.0) as (λ b. begins_with p e.0 ≡ b → cond b (e ∷ below p es) (below p es) ≡ []) [
      | true ↦ λ h. absurd (both_ways (begins_with p a) (convex p a e.0 ge all.0 h) out)
      | false ↦ λ h. none_after p a es ge out all.1
    ] refl

-- The rows at a path and below it are the first of those from it on.
pub within_front : (p : List Text) (es : UnitRows) → IsStrictlySortedBy path_cmp (keys_of es) → front p (entries_between path_cmp (Included p) Unbounded es) ≡ below p es
within_front p [] sorted = refl
within_front p (e ∷ es) sorted =
    let rest = entries_between path_cmp (Included p) Unbounded es in
    let more = within_front p es (sorted_tail path_cmp e.0 (keys_of es) sorted) in
    elim (begins_with p e.0) as (λ b. begins_with p e.0 ≡ b → front p (cond (is_le (path_cmp p e.0) && true) (e ∷ rest) rest) ≡ cond b (e ∷ below p es) (below p es)) [
      | true ↦ λ h.
          ap (λ t. front p (cond (t && true) (e ∷ rest) rest)) (begins_le p e.0 h)
          ∙ (ap (λ t. elim t [ true ↦ e ∷ front p rest | false ↦ [] ]) h ∙ ap (λ xs. e ∷ xs) more)
      | false ↦ λ h.
          elim (is_le (path_cmp p e.0)) as (λ t. is_le (path_cmp p e.0) ≡ t → front p (cond (t && true) (e ∷ rest) rest) ≡ below p es) [
            | true ↦ λ g. ap (λ t. elim t [ true ↦ e ∷ front p rest | false ↦ [] ]) h ∙ sym (none_after p e.0 es g h (sorted_head path_cmp e.0 (keys_of es) sorted))
            | false ↦ λ g. more
          ] refl
    ] refl
