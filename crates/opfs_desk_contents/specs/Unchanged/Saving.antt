-- The flush and the close of an access handle whose pages the store has already. This project's own.
use Rattle.std.specs.Prelude.{Bool, true, false}
use Rattle.opfs_hist.specs.declared.op.Op.{Op}
use Rattle.opfs_hist.specs.declared.op.Op.TheVariants as op

-- The flush and the close of an access handle.
abbrev pub saves_handle : Op → Bool
saves_handle (op.SyncFlush n) = true
saves_handle (op.SyncClose n) = true
saves_handle o = false
