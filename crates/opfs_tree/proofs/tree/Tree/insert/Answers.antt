use Rattle.std.proofs.Common.{sym, ap, ◌∙◌, []}
use Rattle.std.specs.BTreeMap.{insert_entry}
use Rattle.std.specs.FinMap.Entries.{put}
use Rattle.opfs_tree.specs.Units.{text_cmp, path_cmp}
use Rattle.opfs_tree.proofs.Whole.{on_err, row_there, kept_whole, kept_rows, put_rows, put_whole, absent_rows, absent_whole}
use Rattle.opfs_tree.proofs.tree.Tree.insert.Goals as goal

pub add-requires : goal.add-requires
add-requires c = sym (row_there c.args.key.now c.args.path _ c.self.invariant _ c.self.view_is _ c.in-Some.ensures.value) ∙ c.requires.free

pub invariant_of-self : goal.invariant_of-self
invariant_of-self c =
    kept_whole c.args.key.now c.args.path _ c.self.invariant _ c.self.view_is _ c.in-Some.ensures.value _ _ (c.get_mut.follows.holds _).0 (c.get_mut.follows.holds _).4 c.in_err-add.ensures.err

pub returns-in_err-add-clause-err : goal.returns-in_err-add-clause-err
returns-in_err-add-clause-err c =
    let kept = kept_rows c.args.key.now c.args.path _ c.self.invariant _ c.self.view_is _ c.in-Some.ensures.value _ _ (c.get_mut.follows.holds _).0 (c.get_mut.follows.holds _).4 c.in_err-add.ensures.err in
    on_err c.from_residual.result _ kept

pub invariant_of-self-in-Some : goal.invariant_of-self-in-Some
invariant_of-self-in-Some c =
    put_whole c.args.key.now c.args.path _ c.self.invariant _ c.self.view_is _ c.in-Some.ensures.value _ _ (c.get_mut.follows.holds _).0 (c.get_mut.follows.holds _).4 c.args.row c.in_ok-add.ensures.ok c.requires.free c.requires.parent

pub returns-in-Some-clause-ok : goal.returns-in-Some-clause-ok
returns-in-Some-clause-ok c =
    put_rows c.args.key.now c.args.path _ c.self.invariant _ c.self.view_is _ c.in-Some.ensures.value _ _ (c.get_mut.follows.holds _).0 (c.get_mut.follows.holds _).4 c.args.row c.in_ok-add.ensures.ok

pub invariant_of-self-2 : goal.invariant_of-self-2
invariant_of-self-2 c =
    absent_whole c.args.key.now c.args.path _ c.self.invariant _ c.self.view_is c.in_default.ensures.value _ c.args.row
    (c.in_ok-add_unit.ensures.ok ∙ ap (λ m. insert_entry text_cmp m.entries c.args.key.now (put path_cmp c.args.path c.args.row [])) c.get_mut.follows.holds-at-none)
    c.in_ok-add_unit.ensures.ordered c.requires.free c.requires.parent

pub returns-clause-ok : goal.returns-clause-ok
returns-clause-ok c =
    absent_rows c.args.key.now c.args.path _ c.self.invariant _ c.self.view_is c.in_default.ensures.value _ c.args.row
    (c.in_ok-add_unit.ensures.ok ∙ ap (λ m. insert_entry text_cmp m.entries c.args.key.now (put path_cmp c.args.path c.args.row [])) c.get_mut.follows.holds-at-none)
