use Rattle.std.proofs.Common.{◌≡◌, ◌++◌, drop}
use Rattle.opfs_kv.specs.Records.Records.{log_of}
use Rattle.opfs_kv.proofs.records.batch.spell_all.Given as goal

abbrev pub invariant-loop-change : goal.invariant-loop-change
invariant-loop-change l = l.bytes.items ++ log_of (drop l.change-index l.changes) ≡ log_of l.changes
