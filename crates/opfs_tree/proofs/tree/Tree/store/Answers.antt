use Rattle.std.proofs.Common.{ap, ◌∙◌, sym, option_map}
use Rattle.opfs_tree.specs.Rows.{file_of}
use Rattle.opfs_tree.specs.Units.{all_rows}
use Rattle.opfs_tree.proofs.Whole.{row_there, row_missing, change_rows, change_whole, change_missing}
use Rattle.opfs_tree.proofs.tree.Tree.store.Goals as goal

pub returns-in_err-get_mut-clause-rows : goal.returns-in_err-get_mut-clause-rows
returns-in_err-get_mut-clause-rows c =
    ap (λ m. all_rows m.entries) c.get_mut.follows.holds-at-none
    ∙ (c.self.view_is ∙ change_missing c.args.key.now c.args.path.now _ c.self.invariant _ c.self.view_is c.in_err-get_mut.ensures.value _)

pub returns-in_err-get_mut-clause-old : goal.returns-in_err-get_mut-clause-old
returns-in_err-get_mut-clause-old c =
    c.from_residual.ensures
    ∙ ap (λ o. option_map (λ f. f.extents) (file_of o)) (sym (row_missing c.args.key.now c.args.path.now _ c.self.invariant _ c.self.view_is c.in_err-get_mut.ensures.value))

pub invariant_of-self-2 : goal.invariant_of-self-2
invariant_of-self-2 c =
    change_whole c.args.key.now c.args.path.now _ c.self.invariant _ c.self.view_is _ c.in_ok-get_mut.ensures.value _ _ (c.get_mut.follows.holds _).0 (c.get_mut.follows.holds _).4 _ c.store.ensures.rows

pub returns-clause-rows : goal.returns-clause-rows
returns-clause-rows c =
    change_rows c.args.key.now c.args.path.now _ c.self.invariant _ c.self.view_is _ c.in_ok-get_mut.ensures.value _ _ (c.get_mut.follows.holds _).0 (c.get_mut.follows.holds _).4 _ c.store.ensures.rows

pub returns-clause-old : goal.returns-clause-old
returns-clause-old c =
    c.store.ensures.old
    ∙ ap (λ o. option_map (λ f. f.extents) (file_of o)) (sym (row_there c.args.key.now c.args.path.now _ c.self.invariant _ c.self.view_is _ c.in_ok-get_mut.ensures.value))
