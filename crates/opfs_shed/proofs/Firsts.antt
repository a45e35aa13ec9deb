-- The first persistent unit past another.
use Rattle.std.proofs.Common.{◌≡◌, ◌&&◌, Bool, true, false, cond, List, [], ◌∷◌, Option, Some, option_map, filter, find, refl, sym, ap, ◌∙◌}
use Rattle.opfs_base.specs.Texts.{Text}
use Rattle.opfs_shed.specs.declared.shed.Bucket.{Bucket}
use Rattle.opfs_shed.specs.Buckets.{Buckets, is_past, persistent_past}
use Rattle.opfs_shed.proofs.Values.{find-filter}

find_agree : {X : Type 0} (p q : X → Bool) → ((x : X) → p x ≡ q x) → (xs : List X) → find p xs ≡ find q xs
find_agree p q same [] = refl
find_agree p q same (x ∷ xs) = ap (λ t. cond t (Some x) (find p xs)) (same x) ∙ ap (λ r. cond (q x) (Some x) r) (find_agree p q same xs)

and_true : (a b : Bool) → ((a && true) && b) ≡ (a && b)
and_true true b = refl
and_true false b = refl

-- a search among the units past it
pub first_past : (after : Option Text) (es rest : Buckets) (start : Text → Bool) → ((u : Text) → start u ≡ is_past after u) → rest ≡ filter (λ e. start e.0 && true) es
    → persistent_past after es ≡ option_map (λ e. e.0) (find (λ e. e.1.persistent) rest)
first_past after es rest start same is =
    rw is (ap (option_map (λ (e : Text × Bucket). e.0))
    (find_agree (λ (e : Text × Bucket). is_past after e.0 && e.1.persistent) (λ (e : Text × Bucket). (start e.0 && true) && e.1.persistent)
    (λ e. ap (λ t. t && e.1.persistent) (sym (same e.0)) ∙ sym (and_true (start e.0) e.1.persistent)) es
    ∙ sym (find-filter (λ (e : Text × Bucket). e.1.persistent) (λ (e : Text × Bucket). start e.0 && true) es)))
