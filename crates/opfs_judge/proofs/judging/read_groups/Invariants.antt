use Rattle.std.proofs.Common.{◌≡◌, ◌≤◌, ◌-◌, drop, length}
use Rattle.opfs_judge.proofs.Reading.{Reading}
use Rattle.opfs_judge.proofs.judging.read_groups.Given as goal

abbrev pub invariant-loop-at : goal.invariant-loop-at
invariant-loop-at l = record {
  within : l.at ≤ length l.text;
  many : length l.players.items ≡ length l.fn.players.items;
  reads : Reading l.fn.state l.fn.players.items l.text l.state l.players.items (drop l.at l.text);
}

abbrev pub decreases-loop-at : goal.decreases-loop-at
decreases-loop-at l = length l.text - l.at
