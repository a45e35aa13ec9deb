-- Sums over the units that pass a test.
use Rattle.std.proofs.Common.{◌≡◌, ℕ, ◌+◌, List, [], ◌∷◌, sum_by, refl, sym, ap, ◌∙◌}
use Rattle.std.proofs.lemmas.List.Sums.{sum_by-cons}
use Rattle.opfs_base.specs.Texts.{Text, same_text}
use Rattle.opfs_base.specs.Units.{origin_of}
use Rattle.opfs_machine.specs.declared.own.Outline.{Outline}
use Rattle.opfs_machine.specs.declared.own.Outline.TheVariants as outline
use Rattle.opfs_machine.specs.declared.state.State.{State}
use Rattle.opfs_machine.specs.Contents.{in_lengths}
use Rattle.opfs_machine.specs.Sums.{all_own, reserve_of, row_reserve, present_blocks, durable_blocks, usage, pool}
use Rattle.opfs_laws.proofs.RowSums.{sum-filter}
use Rattle.opfs_laws.specs.Lengths.Kept.{of_origin, anywhere, stream_where, reserve_where, usage_where, blocks_where, UnitsAddUp}

pub sum-same : {X : Type 0} (f g : X → ℕ) → ((x : X) → f x ≡ g x) → (xs : List X) → sum_by f xs ≡ sum_by g xs
sum-same f g same [] = refl
sum-same f g same (x ∷ xs) = sum_by-cons f x xs ∙ (λ i. same x i + sum-same f g same xs i) ∙ sym (sum_by-cons g x xs)

stream-is : (origin : Text) (r : Outline) → stream_where (of_origin origin) r ≡ row_reserve in_lengths origin r
unfolding row_reserve
stream-is origin (outline.Stream w) = refl
stream-is origin outline.ClosedStream = refl
stream-is origin (outline.Handle h) = refl
stream-is origin outline.ClosedHandle = refl
stream-is origin outline.Snapshot = refl
stream-is origin outline.Iterator = refl

reserve-is : (r : Outline) → reserve_where anywhere r ≡ reserve_of r
reserve-is (outline.Stream w) = refl
reserve-is outline.ClosedStream = refl
reserve-is (outline.Handle h) = refl
reserve-is outline.ClosedHandle = refl
reserve-is outline.Snapshot = refl
reserve-is outline.Iterator = refl

pub usage-adds : (m : State ℕ Outline) (origin : Text) → usage_where (of_origin origin) m ≡ usage in_lengths m origin
usage-adds m origin =
    let rows = sum-filter (λ e. present_blocks in_lengths e.1) (λ e. same_text origin (origin_of e.0.0)) m.rows in
    let owns = sum-same (stream_where (of_origin origin)) (row_reserve in_lengths origin) (stream-is origin) (all_own m) in
    λ i. sym rows i + owns i

pub pool-adds : (m : State ℕ Outline) → blocks_where anywhere m ≡ pool in_lengths m
pool-adds m = ap (λ n. sum_by (λ e. durable_blocks in_lengths e.1) m.rows + n) (sum-same (reserve_where anywhere) reserve_of reserve-is (all_own m))

pub units-add : UnitsAddUp
units-add = record { usage = usage-adds; pool = pool-adds }
