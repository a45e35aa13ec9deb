-- Calls that change nothing of what the shared store knows. This project's own.
use Rattle.std.specs.Prelude.{Bool, true, false}
use Rattle.opfs_hist.specs.declared.op.Op.{Op}
use Rattle.opfs_hist.specs.declared.op.Op.TheVariants as op

abbrev pub is_quiet : Op → Bool
is_quiet (op.Next n dir) = true
is_quiet (op.Resolve dir entry) = true
is_quiet (op.IsSameEntry entry other) = true
is_quiet (op.Slice n at len) = true
is_quiet (op.Seek n position) = true
is_quiet (op.SyncRead n len at) = true
is_quiet (op.SyncGetSize n) = true
is_quiet (op.Persisted bucket) = true
is_quiet op.Estimate = true
is_quiet (op.Unbound word) = true
is_quiet (op.Evict unit) = true
is_quiet o = false
