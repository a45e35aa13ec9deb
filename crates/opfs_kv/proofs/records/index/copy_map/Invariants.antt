use Rattle.std.proofs.Common.{◌≡◌, fold}
use Rattle.opfs_kv.proofs.records.ByKey.{with_entry}
use Rattle.opfs_kv.proofs.records.index.copy_map.Given as goal

abbrev pub invariant-loop-key : goal.invariant-loop-key
invariant-loop-key l = fold with_entry l.made.entries l.key-iterator ≡ l.map.entries
