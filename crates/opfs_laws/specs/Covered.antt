-- What is kept for bytes that are not stored for good yet. This project's own.
use Rattle.std.specs.Prelude.{◌≡◌, ◌⊎◌, ℕ, ◌*◌, ◌≤◌, length, Some, sum_by}
use Rattle.opfs_base.specs.Blocks.{blocks}
use Rattle.opfs_base.specs.Places.{Place}
use Rattle.opfs_base.specs.Texts.{Text}
use Rattle.opfs_locks.specs.declared.Want.TheVariants.{Exclusive}
use Rattle.opfs_machine.specs.declared.own.Own.{Own}
use Rattle.opfs_machine.specs.declared.state.FileRow.{FileRow}
use Rattle.opfs_machine.specs.declared.state.State.{State}
use Rattle.opfs_machine.specs.Contents.{outline_of}
use Rattle.opfs_machine.specs.Rows.{file_at}
use Rattle.opfs_machine.specs.Sums.{all_own, reserve_of}
use Rattle.opfs_laws.specs.Holders.{hold_of, counts, holders}

-- The blocks that an own row keeps for a file that it may write.
abbrev pub writer_reserve : Place → Own → ℕ
writer_reserve place r = counts place Exclusive (hold_of r) * reserve_of (outline_of r)

-- The blocks that the access handle keeps which may write the file at a place.
abbrev pub reserve_at : State Text Own → Place → ℕ
reserve_at s place = sum_by (writer_reserve place) (all_own s)

-- What a read gives of a file, and what was last stored for good: the content, and its time stamp.
abbrev pub now_of : {F : Type 0} → FileRow F → F × ℕ
now_of f = (f.present, f.stamp)

abbrev pub stored_of : {F : Type 0} → FileRow F → F × ℕ
stored_of f = (f.durable, f.durable_stamp)

-- A file's bytes and their time stamp are stored for good, or an access handle that may write the file keeps blocks
-- enough for them.
abbrev pub IsCovered : State Text Own → Place → FileRow Text → Type 0
IsCovered s place f = (now_of f ≡ stored_of f) ⊎ ((1 ≤ holders s place Exclusive) × (blocks (length f.present) ≤ reserve_at s place))

abbrev pub AreCovered : State Text Own → Type 0
AreCovered s = (place : Place) (f : FileRow Text) → file_at s place ≡ Some f → IsCovered s place f
