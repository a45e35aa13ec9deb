use Rattle.std.proofs.Common.{◌≡◌, ◌+◌, ◌≤◌, length}
use Rattle.opfs_judge.specs.Fronts.{first_line}
use Rattle.opfs_judge.proofs.settling.line_length.Given as goal

abbrev pub invariant-loop-rest : goal.invariant-loop-rest
invariant-loop-rest l = record {
  read : length (first_line l.text) + length l.rest ≡ length l.text + length (first_line l.rest);
  below : length l.rest ≤ length l.text;
}

abbrev pub decreases-loop-rest : goal.decreases-loop-rest
decreases-loop-rest l = length l.rest
