use Rattle.std.proofs.Common.{◌≡◌, ◌+◌, drop}
use Rattle.opfs_tools.specs.Units.{count_before}
use Rattle.opfs_tools.proofs.units.count_before.Given as goal

abbrev pub invariant-loop-at : goal.invariant-loop-at
invariant-loop-at l = l.at + count_before l.key (drop l.at l.units) ≡ count_before l.key l.units
