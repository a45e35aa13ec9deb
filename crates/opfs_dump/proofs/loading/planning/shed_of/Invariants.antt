use Rattle.std.proofs.Common.{◌≡◌, take}
use Rattle.opfs_dump.proofs.loading.Modes.{modes_of}
use Rattle.opfs_dump.proofs.loading.planning.shed_of.Given as goal

abbrev pub invariant-loop-unit : goal.invariant-loop-unit
invariant-loop-unit l = l.shed.buckets ≡ modes_of (take l.unit-index l.units)
