use Rattle.std.proofs.Common.{◌≡◌, ◌+◌, drop}
use Rattle.std.specs.Prelude.{sum_by}
use Rattle.opfs_base.specs.Measures.{mode_charge}
use Rattle.opfs_dump.proofs.loading.sums.modes_charge.Given as goal

abbrev pub invariant-loop-unit : goal.invariant-loop-unit
invariant-loop-unit l = l.sum + sum_by mode_charge (drop l.unit-index l.units) ≡ sum_by mode_charge l.units
