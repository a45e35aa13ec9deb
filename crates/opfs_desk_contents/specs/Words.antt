-- Calls that store a row's content: the close of a stream, and the flush and the close of an access handle that may write. This
-- project's own.
use Rattle.std.specs.Prelude.{ℕ, Bool, true, false, not, Option, Some, None}
use Rattle.opfs_hist.specs.declared.op.Op.{Op}
use Rattle.opfs_hist.specs.declared.op.Op.TheVariants as op
use Rattle.opfs_machine.specs.declared.own.HandleOutline.{HandleOutline}
use Rattle.opfs_machine.specs.declared.state.Sizes.{Sizes}
use Rattle.opfs_machine.specs.Agents.{open_handle}
use Rattle.opfs_machine.specs.Contents.{in_lengths}
use Rattle.opfs_machine.specs.Effects.{moment_of}
use Rattle.opfs_machine.specs.Rulings.{is_read_write}
use Rattle.opfs_space.specs.Room.{Machine}
use Rattle.opfs_tree.specs.declared.row.FileRow.{FileRow}

abbrev pub may_write : Option HandleOutline → Bool
may_write None = false
may_write (Some h) = is_read_write h.mode

abbrev pub stores_row : Machine → ℕ → Op → Bool
stores_row m k (op.Close n) = true
stores_row m k (op.SyncFlush n) = may_write (open_handle in_lengths m k n)
stores_row m k (op.SyncClose n) = may_write (open_handle in_lengths m k n)
stores_row m k o = false

-- Their words.
abbrev pub is_storing : Op → Bool
is_storing (op.Close n) = true
is_storing (op.SyncFlush n) = true
is_storing (op.SyncClose n) = true
is_storing o = false

-- Whether the row ends with the call.
abbrev pub ends_row : Op → Bool
ends_row (op.Close n) = true
ends_row (op.SyncClose n) = true
ends_row o = false

-- The flush of a read-only access handle stores nothing.
abbrev pub may_only_read : Option HandleOutline → Bool
may_only_read None = false
may_only_read (Some h) = not (is_read_write h.mode)

abbrev pub flushes_nothing : Machine → ℕ → Op → Bool
flushes_nothing m k (op.SyncFlush n) = may_only_read (open_handle in_lengths m k n)
flushes_nothing m k o = false

-- The time stamp and the size of what is stored in a file: the moment of a close, and what a stream says of its buffer; else those
-- that a read of the file gives.
abbrev pub stamp_stored : Machine → ℕ → Op → FileRow → ℕ
stamp_stored m k (op.Close n) f = moment_of m k
stamp_stored m k (op.SyncFlush n) f = f.present_stamp
stamp_stored m k (op.SyncClose n) f = f.present_stamp
stamp_stored m k o f = 0

abbrev pub size_stored : Sizes → Op → FileRow → ℕ
size_stored z (op.Close n) f = z.size
size_stored z (op.SyncFlush n) f = f.present
size_stored z (op.SyncClose n) f = f.present
size_stored z o f = 0
