use Rattle.std.proofs.Common.{ap, sym, ◌∙◌}
use Rattle.opfs_tree.specs.Rows.{first_taken}
use Rattle.opfs_tree.specs.Units.{below, values}
use Rattle.opfs_tree.proofs.Places.{rows_in_unit}
use Rattle.opfs_tree.proofs.tree.Tree.first_locked.Goals as goal

pub returns-in_err-unit : goal.returns-in_err-unit
returns-in_err-unit c =
    c.from_residual.ensures
    ∙ (ap (λ es. first_taken (values (below c.args.path.now es))) c.in_err-unit.ensures ∙ ap first_taken (sym (rows_in_unit c.args.key.now c.args.path.now c.args.self.now)))

pub returns : goal.returns
returns c =
    c.first_locked.ensures
    ∙ (ap (λ es. first_taken (values (below c.args.path.now es))) c.in_ok-unit.ensures ∙ ap first_taken (sym (rows_in_unit c.args.key.now c.args.path.now c.args.self.now)))
