use Rattle.std.proofs.Common.{◌∙◌}
use Rattle.opfs_tree.proofs.Steps.{first_here, first_later}
use Rattle.opfs_tree.proofs.tree.Tree.above.Goals as goal

pub returns-in-Some : goal.returns-in-Some
returns-in-Some c = first_here c.args.key.now c.args.path.now _ _ c.self.invariant.units c.self.view_is _ c.in-Some.ensures

pub returns-in-None : goal.returns-in-None
returns-in-None c = c.first_behind.ensures ∙ first_later c.args.key.now c.args.path.now _ _ c.self.invariant.units c.self.view_is c.in-None.ensures
