use Rattle.std.proofs.Common.{◌-◌, ◌≤◌, length, take, drop}
use Rattle.opfs_rulings.specs.Spots.{IsBehind, IsBefore}
use Rattle.opfs_rulings.proofs.spots.spot_of.Given as goal

abbrev pub invariant-loop-low : goal.invariant-loop-low
invariant-loop-low l = record {
  order : l.low ≤ l.high;
  within : l.high ≤ length l.rows;
  behind : IsBehind (l.key, l.path) (take l.low l.rows);
  before : IsBefore (l.key, l.path) (drop l.high l.rows);
}

abbrev pub decreases-loop-low : goal.decreases-loop-low
decreases-loop-low l = l.high - l.low
