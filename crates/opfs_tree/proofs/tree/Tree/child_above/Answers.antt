use Rattle.std.proofs.Common.{ap, sym, ◌∙◌, option_map}
use Rattle.opfs_tree.specs.Rows.{least_above}
use Rattle.opfs_tree.specs.Units.{below, children_in}
use Rattle.opfs_tree.proofs.Places.{children_in_unit}
use Rattle.opfs_tree.proofs.tree.Tree.child_above.Goals as goal

pub returns-in_err-unit : goal.returns-in_err-unit
returns-in_err-unit c =
    ap (option_map (λ x. (x.0.now, x.1))) c.from_residual.ensures
    ∙ (ap (λ es. least_above c.args.name.now (children_in c.args.path.now (below c.args.path.now es))) c.in_err-unit.ensures
    ∙ ap (least_above c.args.name.now) (sym (children_in_unit c.args.key.now c.args.path.now c.args.self.now)))

pub returns : goal.returns
returns c =
    c.child_above.ensures
    ∙ (ap (λ es. least_above c.args.name.now (children_in c.args.path.now (below c.args.path.now es))) c.in_ok-unit.ensures
    ∙ ap (least_above c.args.name.now) (sym (children_in_unit c.args.key.now c.args.path.now c.args.self.now)))
