use Rattle.std.proofs.Common.{ap, sym, ◌∙◌}
use Rattle.std.specs.Option.{option_copied}
use Rattle.std.specs.FinMap.Entries.{find}
use Rattle.opfs_tree.specs.Units.{path_cmp}
use Rattle.opfs_tree.proofs.Places.{row_in_unit}
use Rattle.opfs_tree.proofs.tree.Tree.row.Goals as goal

pub returns-in_err-unit : goal.returns-in_err-unit
returns-in_err-unit c =
    ap option_copied c.from_residual.ensures ∙ (ap (find path_cmp c.args.path.now) c.in_err-unit.ensures ∙ sym (row_in_unit c.args.key.now c.args.path.now c.args.self.now))

pub returns : goal.returns
returns c =
    c.row.ensures ∙ (ap (find path_cmp c.args.path.now) c.in_ok-unit.ensures ∙ sym (row_in_unit c.args.key.now c.args.path.now c.args.self.now))
