use Rattle.std.proofs.Common.{◌≡◌, ◌+◌, ◌≤◌, length}
use Rattle.opfs_top.specs.Doing.{script_part}
use Rattle.opfs_top.proofs.parts.script_length.Given as goal

abbrev pub invariant-loop-rest : goal.invariant-loop-rest
invariant-loop-rest l = record {
  read : length (script_part l.bytes) + length l.rest ≡ length l.bytes + length (script_part l.rest);
  below : length l.rest ≤ length l.bytes;
}

abbrev pub decreases-loop-rest : goal.decreases-loop-rest
decreases-loop-rest l = length l.rest
