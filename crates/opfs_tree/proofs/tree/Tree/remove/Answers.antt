use Rattle.std.proofs.Common.{◌≤◌, ◌++◌, List, length, vec_capacity, ap, ◌∙◌, sym, subst}
use Rattle.std.proofs.lemmas.List.{append-nil}
use Rattle.std.specs.List.{flat_map}
use Rattle.opfs_tree.specs.declared.row.Row.{Row}
use Rattle.opfs_tree.specs.Rows.{extents_of}
use Rattle.opfs_tree.specs.Units.{all_rows}
use Rattle.opfs_tree.proofs.Whole.{rows_there, rows_missing, without_rows, without_whole, without_missing, whole_same}
use Rattle.opfs_tree.proofs.tree.Tree.remove.Goals as goal

pub remove-requires : goal.remove-requires
remove-requires c =
    let there = rows_there c.args.key.now c.args.path.now _ c.self.invariant _ c.self.view_is _ c.in-Some.ensures.value in
    let P = λ (rs : List Row). length (c.args.freed.now.items ++ flat_map extents_of rs) ≤ vec_capacity c.args.freed.now in subst P there c.requires

pub invariant_of-self : goal.invariant_of-self
invariant_of-self c =
    let sorted = (c.get_mut.follows.holds c.remove.new.self).4 in
    whole_same _ _
    (without_whole c.args.key.now c.args.path.now _ c.self.invariant _ c.self.view_is _ c.in-Some.ensures.value _ _ (c.get_mut.follows.holds _).0 sorted c.remove.ensures.rows)
    (c.drop_empty.ensures.ordered sorted) c.drop_empty.ensures.rows

pub returns-in-Some-clause-rows : goal.returns-in-Some-clause-rows
returns-in-Some-clause-rows c =
    c.drop_empty.ensures.rows
    ∙ without_rows c.args.key.now c.args.path.now _ c.self.invariant _ c.self.view_is _ c.in-Some.ensures.value _ _ (c.get_mut.follows.holds _).0 (c.get_mut.follows.holds _).4 c.remove.ensures.rows

pub returns-in-Some-clause-freed : goal.returns-in-Some-clause-freed
returns-in-Some-clause-freed c =
    c.remove.ensures.freed
    ∙ ap (λ rs. c.args.freed.now.items ++ flat_map extents_of rs) (sym (rows_there c.args.key.now c.args.path.now _ c.self.invariant _ c.self.view_is _ c.in-Some.ensures.value))

pub returns-in_default-clause-rows : goal.returns-in_default-clause-rows
returns-in_default-clause-rows c =
    ap (λ m. all_rows m.entries) c.get_mut.follows.holds-at-none
    ∙ (c.self.view_is ∙ without_missing c.args.key.now c.args.path.now _ c.self.invariant _ c.self.view_is c.in_default.ensures.value)

pub returns-in_default-clause-freed : goal.returns-in_default-clause-freed
returns-in_default-clause-freed c =
    let missing = rows_missing c.args.key.now c.args.path.now _ c.self.invariant _ c.self.view_is c.in_default.ensures.value in
    sym (ap (λ rs. c.args.freed.now.items ++ flat_map extents_of rs) missing ∙ append-nil c.args.freed.now.items)
