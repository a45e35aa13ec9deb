use Rattle.opfs_tree.proofs.Removals.{all_gone}
use Rattle.opfs_tree.proofs.unit.Unit.remove.Goals as goal

pub returns-clause-rows : goal.returns-clause-rows
returns-clause-rows c = all_gone _ _ _ _ c.in_default.ensures.row c.in_default.ensures.none c.in_default.ensures.rest c.loop-row.invariant.rest
