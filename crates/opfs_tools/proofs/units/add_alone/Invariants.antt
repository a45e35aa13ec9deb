use Rattle.std.proofs.Common.{◌≡◌, ◌++◌, drop}
use Rattle.std.specs.Prelude.{map}
use Rattle.opfs_tools.specs.Units.{alone}
use Rattle.opfs_tools.proofs.units.add_alone.Given as goal

abbrev pub invariant-loop-unit : goal.invariant-loop-unit
invariant-loop-unit l = l.units.items ++ map alone (drop l.unit-index l.persistent) ≡ l.fn.units.items ++ map alone l.persistent
