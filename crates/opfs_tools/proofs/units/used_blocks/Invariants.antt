use Rattle.std.proofs.Common.{◌≡◌, ◌+◌, drop}
use Rattle.opfs_tools.specs.Sights.{used_blocks}
use Rattle.opfs_tools.proofs.units.used_blocks.Given as goal

abbrev pub invariant-loop-entry : goal.invariant-loop-entry
invariant-loop-entry l = l.total + used_blocks (drop l.entry-index l.rows) ≡ used_blocks l.rows
