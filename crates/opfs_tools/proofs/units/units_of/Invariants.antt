use Rattle.std.proofs.Common.{◌≡◌, ◌-◌, ◌≤◌, ◌++◌, length, drop}
use Rattle.opfs_tools.specs.Units.{units_of}
use Rattle.opfs_tools.proofs.units.units_of.Given as goal

abbrev pub invariant-loop-at : goal.invariant-loop-at
invariant-loop-at l = record {
  rows : l.at ≤ length l.rows;
  persistent : l.past ≤ length l.persistent;
  units : l.units.items ++ units_of (drop l.at l.rows) (drop l.past l.persistent) ≡ units_of l.rows l.persistent;
}

abbrev pub decreases-loop-at : goal.decreases-loop-at
decreases-loop-at l = length l.rows - l.at
