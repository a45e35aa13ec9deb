use Rattle.std.proofs.Common.{◌+◌, ◌≤◌, length}
use Rattle.opfs_judge.proofs.Scanning.{Scanning}
use Rattle.opfs_judge.proofs.front.evictions.Given as goal

abbrev pub invariant-loop-more : goal.invariant-loop-more
invariant-loop-more l = record {
  scanned : Scanning l.text l.rest l.count;
  below : l.count + length l.rest ≤ length l.text;
}

abbrev pub decreases-loop-more : goal.decreases-loop-more
decreases-loop-more l = length l.rest
