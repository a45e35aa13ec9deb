use Rattle.std.proofs.Common.{◌∙◌}
use Rattle.opfs_tree.proofs.Sets.{least_outside}
use Rattle.opfs_tree.proofs.unit.Unit.least_child.Goals as goal

pub returns : goal.returns
returns c = c.child_outside-child.ensures ∙ least_outside c.args.past.now _ c.in_ok-given.ensures _
