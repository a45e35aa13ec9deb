use Rattle.std.proofs.Common.{ap, ◌∙◌, [], unwrap_or}
use Rattle.opfs_tree.specs.Units.{unit_rows}
use Rattle.opfs_tree.proofs.Places.{unit_found}
use Rattle.opfs_tree.proofs.tree.Tree.unit.Goals as goal

pub returns-in-Some : goal.returns-in-Some
returns-in-Some c =
    c.rows.ensures ∙ (ap (λ o. unwrap_or o []) c.in-Some.ensures.value ∙ (unit_found c.args.key.now _ c.self.invariant.units ∙ ap (unit_rows c.args.key.now) c.self.view_is))

pub returns-in-None : goal.returns-in-None
returns-in-None c =
    ap (λ o. unwrap_or o []) c.in-None.ensures.value ∙ (unit_found c.args.key.now _ c.self.invariant.units ∙ ap (unit_rows c.args.key.now) c.self.view_is)
