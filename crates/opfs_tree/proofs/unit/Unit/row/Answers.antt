use Rattle.std.proofs.Common.{sym}
use Rattle.opfs_tree.proofs.Changes.{found_here}
use Rattle.opfs_tree.proofs.unit.Unit.row.Goals as goal

pub returns : goal.returns
returns c = sym (found_here _ _ _ _ c.self.view_is c.get.ensures.value)
