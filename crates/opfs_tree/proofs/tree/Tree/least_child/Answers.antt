use Rattle.std.proofs.Common.{ap, sym, ◌∙◌}
use Rattle.opfs_tree.specs.Rows.{least_not_in}
use Rattle.opfs_tree.specs.Units.{below, children_in}
use Rattle.opfs_tree.proofs.Places.{children_in_unit}
use Rattle.opfs_tree.proofs.tree.Tree.least_child.Goals as goal

pub returns-in_default : goal.returns-in_default
returns-in_default c =
    ap (λ es. least_not_in c.args.past.now (children_in c.args.path.now (below c.args.path.now es))) (rw c.in_default.is at c.unit.ensures)
    ∙ ap (least_not_in c.args.past.now) (sym (children_in_unit c.args.key.now c.args.path.now c.args.self.now))

pub returns : goal.returns
returns c =
    c.in_ok-child.ensures
    ∙ (ap (λ es. least_not_in c.args.past.now (children_in c.args.path.now (below c.args.path.now es))) (rw c.in-Some.is at c.unit.ensures)
    ∙ ap (least_not_in c.args.past.now) (sym (children_in_unit c.args.key.now c.args.path.now c.args.self.now)))
