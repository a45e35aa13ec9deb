use Rattle.std.proofs.Common.{◌≡◌, take}
use Rattle.opfs_desk_steps.specs.Parts.Asked.{AreEvictions}
use Rattle.opfs_desk_steps.specs.Parts.Seen.{units_in}
use Rattle.opfs_desk_steps.proofs.judging.clearings.clearings_for.Given as goal

abbrev pub invariant-loop-unit : goal.invariant-loop-unit
invariant-loop-unit l = (units_in l.clearing.items ≡ take l.unit-index l.units) × AreEvictions l.clearing.items
