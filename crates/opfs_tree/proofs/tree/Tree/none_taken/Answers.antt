use Rattle.std.proofs.Common.{ap, sym, ◌∙◌, [], unwrap_or, is_none}
use Rattle.std.specs.List.{list_all}
use Rattle.opfs_tree.specs.Rows.{taken_lock}
use Rattle.opfs_tree.specs.Units.{unit_rows}
use Rattle.opfs_tree.proofs.Counts.{none_in_unit}
use Rattle.opfs_tree.proofs.Places.{unit_found}
use Rattle.opfs_tree.proofs.tree.Tree.none_taken.Goals as goal

pub returns-in-Some : goal.returns-in-Some
returns-in-Some c =
    c.none_taken.ensures
    ∙ (ap (λ o. list_all (λ e. is_none (taken_lock e.1)) (unwrap_or o [])) c.in-Some.ensures.value
    ∙ (ap (list_all (λ e. is_none (taken_lock e.1))) (unit_found c.args.key.now _ c.self.invariant.units ∙ ap (unit_rows c.args.key.now) c.self.view_is) ∙ sym (none_in_unit c.args.key.now c.args.self.now)))

pub returns-in-None : goal.returns-in-None
returns-in-None c =
    ap (λ o. list_all (λ e. is_none (taken_lock e.1)) (unwrap_or o [])) c.in-None.ensures.value
    ∙ (ap (list_all (λ e. is_none (taken_lock e.1))) (unit_found c.args.key.now _ c.self.invariant.units ∙ ap (unit_rows c.args.key.now) c.self.view_is) ∙ sym (none_in_unit c.args.key.now c.args.self.now))
