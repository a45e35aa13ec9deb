use Rattle.std.proofs.Common.{refl}
use Rattle.opfs_tree.proofs.Steps.{step_rows, no_step}
use Rattle.opfs_tree.proofs.tree.Tree.step.Goals as goal

pub returns-in_err-key-clause-end : goal.returns-in_err-key-clause-end
returns-in_err-key-clause-end c =
    let none = no_step c.args.walk.now c.args.self.now c.in_err-key.ensures.first in rw c.from_residual.ensures (none, refl)

pub returns-clause-next : goal.returns-clause-next
returns-clause-next c =
    let next = step_rows c.args.walk.now c.args.self.now (c.in_ok-key.key.now, c.in_ok-key.path.now) c.in_ok-key.row.now c.in_ok-key.ensures.order c.in_ok-key.ensures.first in rw c.at.ensures next
