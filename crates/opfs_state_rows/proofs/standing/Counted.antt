-- The sums over any units are those of the machine.
use Rattle.std.proofs.Common.{◌≡◌, ℕ, ◌+◌, ◌*◌, Bool, true, false, cond, List, [], ◌∷◌, filter, sum_by, refl, sym, ap, ◌∙◌, arith}
use Rattle.std.proofs.lemmas.List.Sums.{sum_by-cons}
use Rattle.opfs_base.specs.Places.{Place}
use Rattle.opfs_base.specs.Texts.{Text, same_text}
use Rattle.opfs_base.specs.Units.{origin_of}
use Rattle.opfs_machine.specs.declared.own.Outline.{Outline}
use Rattle.opfs_machine.specs.declared.own.Outline.TheVariants as outline
use Rattle.opfs_machine.specs.declared.state.Row.{Row as Line}
use Rattle.opfs_machine.specs.Contents.{in_lengths}
use Rattle.opfs_machine.specs.Sums.{all_own, present_blocks, durable_blocks, reserve_of, row_reserve, usage, pool, charge}
use Rattle.opfs_state_rows.specs.Standing.Seen.{Machine}
use Rattle.opfs_state_rows.specs.Standing.Sums.{where_unit, stream_where, reserve_where, usage_where, blocks_where, anywhere, of_origin, fixed_charge}

pub sum-same : {X : Type 0} (f g : X → ℕ) → ((x : X) → f x ≡ g x) → (xs : List X) → sum_by f xs ≡ sum_by g xs
sum-same f g same [] = refl
sum-same f g same (x ∷ xs) = sum_by-cons f x xs ∙ (ap (λ n. n + sum_by f xs) (same x) ∙ (ap (λ n. g x + n) (sum-same f g same xs) ∙ sym (sum_by-cons g x xs)))

pub sum-filter : {X : Type 0} (f : X → ℕ) (p : X → Bool) (xs : List X) → sum_by f (filter p xs) ≡ sum_by (λ (x : X). cond (p x) (f x) 0) xs
sum-filter f p [] = refl
sum-filter {X} f p (x ∷ xs) =
    let g = λ (x : X). cond (p x) (f x) 0 in
    let whole = sum_by-cons g x xs in
    let rest = sum-filter f p xs in
    elim (p x) as (λ t. p x ≡ t → sum_by f (cond t (x ∷ filter p xs) (filter p xs)) ≡ sum_by g (x ∷ xs)) [
      | true ↦ λ is. let here : g x ≡ f x = ap (λ t. cond t (f x) 0) is in let front = sum_by-cons f x (filter p xs) in omega (arith, whole, rest, here, front)
      | false ↦ λ is. let here : g x ≡ 0 = ap (λ t. cond t (f x) 0) is in omega (arith, whole, rest, here)
    ] refl

row_kept : (origin : Text) (r : Outline) → row_reserve in_lengths origin r ≡ stream_where (of_origin origin) r
unfolding row_reserve
row_kept origin (outline.Stream w) = refl
row_kept origin outline.ClosedStream = refl
row_kept origin (outline.Handle h) = refl
row_kept origin outline.ClosedHandle = refl
row_kept origin outline.Snapshot = refl
row_kept origin outline.Iterator = refl

reserve_kept : (r : Outline) → reserve_of r ≡ reserve_where anywhere r
reserve_kept (outline.Stream w) = refl
reserve_kept outline.ClosedStream = refl
reserve_kept (outline.Handle h) = refl
reserve_kept outline.ClosedHandle = refl
reserve_kept outline.Snapshot = refl
reserve_kept outline.Iterator = refl

pub usage-is : (m : Machine) (origin : Text) → usage in_lengths m origin ≡ usage_where (of_origin origin) m
usage-is m origin =
    ap (λ n. n + sum_by (row_reserve in_lengths origin) (all_own m)) (sum-filter (λ (e : Place × Line ℕ). present_blocks in_lengths e.1) (λ (e : Place × Line ℕ). same_text origin (origin_of e.0.0)) m.rows)
    ∙ ap (λ n. sum_by (where_unit (of_origin origin) (present_blocks in_lengths)) m.rows + n) (sum-same (row_reserve in_lengths origin) (stream_where (of_origin origin)) (row_kept origin) (all_own m))

pub pool-is : (m : Machine) → pool in_lengths m ≡ blocks_where anywhere m
pool-is m = ap (λ n. sum_by (where_unit anywhere (durable_blocks in_lengths)) m.rows + n) (sum-same reserve_of (reserve_where anywhere) reserve_kept (all_own m))

pub charge-is : (m : Machine) → charge in_lengths m ≡ fixed_charge m + 8 * blocks_where anywhere m
charge-is m = ap (λ n. fixed_charge m + 8 * n) (pool-is m)
