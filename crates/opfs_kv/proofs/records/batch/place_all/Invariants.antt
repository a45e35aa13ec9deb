use Rattle.std.proofs.Common.{◌≡◌, ◌+◌, ◌≤◌, drop, length}
use Rattle.opfs_kv.specs.Records.Indexes.{indexed}
use Rattle.opfs_kv.specs.Records.Records.{log_of}
use Rattle.opfs_kv.proofs.records.batch.place_all.Given as goal

abbrev pub invariant-loop-change : goal.invariant-loop-change
invariant-loop-change l = record {
  small : l.next + length (log_of (drop l.change-index l.changes)) ≤ 16777216;
  placed : indexed l.next (drop l.change-index l.changes) l.made ≡ indexed l.at l.changes l.index;
}
