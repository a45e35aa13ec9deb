-- write and truncate of a stream.
use Rattle.std.proofs.Common.{◌≡◌, ℕ, ◌+◌, ◌-◌, ◌≤◌, ◌<◌, ◌^◌, Option, List, length, refl, sym, ap, ◌∙◌, arith}
use Rattle.opfs_base.specs.Texts.{Text}
use Rattle.opfs_base.specs.declared.extents.Extent.{Extent}
use Rattle.opfs_hist.specs.declared.op.Op.TheVariants as op
use Rattle.opfs_machine.specs.declared.state.Sizes.{Sizes}
use Rattle.opfs_machine.specs.Agents.{counted}
use Rattle.opfs_machine.specs.Contents.{in_lengths, stream_with}
use Rattle.opfs_machine.specs.Effects.{effect, with_changed}
use Rattle.opfs_machine.specs.Rulings.{ruling, reserve_for, size_written}
use Rattle.opfs_machine.specs.Sums.{reserve_of, pool}
use Rattle.opfs_state_rows.specs.Standing.Seen.{Machine, Seen}
use Rattle.opfs_state_rows.proofs.changes.Told.{grown-told}
use Rattle.opfs_state_rows.specs.Changes.Allowed.{MayDo, MayApply}
use Rattle.opfs_state_rows.specs.Changes.Asking.{made_at, place_for}
use Rattle.opfs_state_rows.specs.Changes.Changed.{IsDone, tree_by}
use Rattle.opfs_state_rows.specs.Changes.Growing.{IsGrowing}

pub write-grows : (m : Machine) (z : Sizes) (k n : ℕ) (bytes : Text) (position : Option ℕ) → MayApply m z k (op.Write n bytes position) → IsGrowing m k n (size_written z position bytes)
unfolding ruling
write-grows m z k n bytes position may =
    let told = grown-told m k n (size_written z position bytes) may.need may.ruled in
    record { stream = told.0; is = told.1; room = omega (arith, may.pool, ap (λ x. x.pool) told.2) }

pub truncate-grows : (m : Machine) (z : Sizes) (k n size : ℕ) → MayApply m z k (op.Truncate n size) → IsGrowing m k n size
unfolding ruling
truncate-grows m z k n size may =
    let told = grown-told m k n size may.need may.ruled in
    record { stream = told.0; is = told.1; room = omega (arith, may.pool, ap (λ x. x.pool) told.2) }

module _ (s new : Seen) (z : Sizes) (k n : ℕ) (extents : Option (List Extent)) (same : new.tree ≡ s.tree) where
  pub write-done : (bytes : Text) (position : Option ℕ) → new.machine ≡ counted (with_changed s.machine k n (λ r. stream_with r (reserve_for (reserve_of r) (size_written z position bytes)))) k
      → IsDone s new z k (op.Write n bytes position) extents
  unfolding effect tree_by made_at
  write-done bytes position is = record { machine = is; tree = same }

  pub truncate-done : (size : ℕ) → new.machine ≡ counted (with_changed s.machine k n (λ r. stream_with r (reserve_for (reserve_of r) size))) k
      → IsDone s new z k (op.Truncate n size) extents
  unfolding effect tree_by made_at
  truncate-done size is = record { machine = is; tree = same }
