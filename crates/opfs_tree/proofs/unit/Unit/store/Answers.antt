use Rattle.std.proofs.Common.{ap, ◌∙◌, sym, option_map}
use Rattle.opfs_tree.specs.Rows.{file_of}
use Rattle.opfs_tree.proofs.Changes.{found_here, changed_here, missing_here}
use Rattle.opfs_tree.proofs.unit.Unit.store.Goals as goal

pub returns-in_err-get_mut-clause-rows : goal.returns-in_err-get_mut-clause-rows
returns-in_err-get_mut-clause-rows c =
    missing_here _ _ _ _ _ c.self.view_is c.in_err-get_mut.ensures.value (ap (λ m. m.entries) c.get_mut.follows.holds-at-none)

pub returns-in_err-get_mut-clause-old : goal.returns-in_err-get_mut-clause-old
returns-in_err-get_mut-clause-old c =
    c.from_residual.ensures ∙ ap (λ o. option_map (λ f. f.extents) (file_of o)) (sym (found_here _ _ _ _ c.self.view_is c.in_err-get_mut.ensures.value))

pub returns-clause-rows : goal.returns-clause-rows
returns-clause-rows c =
    changed_here _ _ _ _ _ _ _ c.self.view_is c.in_ok-get_mut.ensures.value (c.get_mut.follows.holds _).0 c.store.ensures.row

pub returns-clause-old : goal.returns-clause-old
returns-clause-old c =
    c.store.ensures.old ∙ ap (λ o. option_map (λ f. f.extents) (file_of o)) (sym (found_here _ _ _ _ c.self.view_is c.in_ok-get_mut.ensures.value))
