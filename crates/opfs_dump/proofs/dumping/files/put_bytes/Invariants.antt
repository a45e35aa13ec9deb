use Rattle.std.proofs.Common.{◌+◌, ◌-◌, ◌≤◌}
use Rattle.opfs_outside.specs.Bytes.{window}
use Rattle.opfs_dump.specs.Dumping.Pieces.{digits_text}
use Rattle.opfs_dump.specs.Dumping.Putting.{DumpsSoFar}
use Rattle.opfs_dump.proofs.dumping.files.put_bytes.Given as goal

abbrev pub invariant-loop-from : goal.invariant-loop-from
invariant-loop-from g l = record {
  within : l.from ≤ l.count;
  so_far : DumpsSoFar g.D.Disk g.K.Sink l.fn.journal l.journal l.fn.sink l.sink (λ c. digits_text (window c l.at l.count)) (λ c. digits_text (window c (l.at + l.from) (l.count - l.from)));
}

abbrev pub decreases-loop-from : goal.decreases-loop-from
decreases-loop-from g l = l.count - l.from
