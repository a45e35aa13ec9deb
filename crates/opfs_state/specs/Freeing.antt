-- Calls that may let extents go. This project's own.
use Rattle.std.specs.Prelude.{Bool, true, false}
use Rattle.opfs_hist.specs.declared.op.Op.{Op}
use Rattle.opfs_hist.specs.declared.op.Op.TheVariants as op

abbrev pub lets_go : Op → Bool
lets_go (op.RemoveEntry dir name recursive) = true
lets_go (op.Close n) = true
lets_go (op.SyncFlush n) = true
lets_go (op.SyncClose n) = true
lets_go o = false
