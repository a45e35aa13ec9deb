-- The calls that write or cut an open row have room for the blocks of its pages. This project's own.
use Rattle.std.specs.Prelude.{◌≡◌, ℕ, ◌≤◌, Bool, true, false, length, sum_by}
use Rattle.opfs_base.specs.Blocks.{blocks}
use Rattle.opfs_state_rows.specs.Changes.Allowed.{MayApply}
use Rattle.opfs_hist.specs.declared.op.Op.{Op}
use Rattle.opfs_hist.specs.declared.op.Op.TheVariants as op
use Rattle.opfs_laws.specs.Lengths.Kept.{Kept}
use Rattle.opfs_machine.specs.declared.state.Sizes.{Sizes}
use Rattle.opfs_machine.specs.Contents.{in_lengths}
use Rattle.opfs_machine.specs.Replies.{row_named}
use Rattle.opfs_machine.specs.Rulings.{size_written}
use Rattle.opfs_machine.specs.Sums.{durable_blocks}
use Rattle.opfs_records.specs.Replay.Built.{IsSound, named}
use Rattle.opfs_records.specs.Checkpoint.Written.{stored_rows}
use Rattle.opfs_space.specs.Room.{Machine, HasRoom}
use Rattle.opfs_state_rows.specs.Standing.Seen.{lines_of}
use Rattle.opfs_tree.specs.Rows.{Rows as Tree}

-- A write, or a new size.
abbrev pub puts_row : Op → Bool
puts_row (op.Write n bytes position) = true
puts_row (op.Truncate n size) = true
puts_row (op.SyncWrite n bytes at) = true
puts_row (op.SyncTruncate n size) = true
puts_row o = false

-- The size that the row has after it.
abbrev pub size_put : Sizes → Op → ℕ
size_put z (op.Write n bytes position) = size_written z position bytes
size_put z (op.Truncate n size) = size
size_put z (op.SyncWrite n bytes at) = size_written z at bytes
size_put z (op.SyncTruncate n size) = size
size_put z o = 0

-- So many blocks are kept for the row, enough for its new size, and the pool has room for them.
pub record HasRoomForRow (m : Machine) (z : Sizes) (k : ℕ) (o : Op) : Type 0 where
  pub reserve : ℕ
  pub need : ℕ
  pub room : HasRoom m k (row_named o) reserve need
  pub within : blocks (size_put z o) ≤ reserve

abbrev pub PutsHaveRoom : Type 0
PutsHaveRoom = (m : Machine) (z : Sizes) (k : ℕ) (o : Op) → Kept m → MayApply m z k o → puts_row o ≡ true → HasRoomForRow m z k o

-- The tree names as many blocks as the machine's files are stored in.
abbrev pub TreesNameStoredBlocks : Type 0
TreesNameStoredBlocks = (m : Machine) (t : Tree) (size : ℕ) → lines_of t ≡ m.rows → IsSound size (stored_rows t) → length (named t) ≡ sum_by (λ e. durable_blocks in_lengths e.1) m.rows
