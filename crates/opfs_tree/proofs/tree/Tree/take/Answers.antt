use Rattle.std.proofs.Common.{ap, ◌∙◌}
use Rattle.opfs_tree.specs.Units.{all_rows}
use Rattle.opfs_tree.proofs.Whole.{row_there, row_missing, change_rows, change_whole, change_missing}
use Rattle.opfs_tree.proofs.tree.Tree.take.Goals as goal

pub returns-in_err-get_mut-clause-rows : goal.returns-in_err-get_mut-clause-rows
returns-in_err-get_mut-clause-rows c =
    ap (λ m. all_rows m.entries) c.get_mut.follows.holds-at-none
    ∙ (c.self.view_is ∙ change_missing c.args.key.now c.args.path.now _ c.self.invariant _ c.self.view_is c.in_err-get_mut.ensures.value _)

pub returns-in_err-get_mut-clause-given : goal.returns-in_err-get_mut-clause-given
returns-in_err-get_mut-clause-given c =
    let missing = row_missing c.args.key.now c.args.path.now _ c.self.invariant _ c.self.view_is c.in_err-get_mut.ensures.value in rw missing tt

pub take-requires : goal.take-requires
take-requires c =
    let there = row_there c.args.key.now c.args.path.now _ c.self.invariant _ c.self.view_is _ c.in_ok-get_mut.ensures.value in rw there at c.requires.room

pub invariant_of-self-2 : goal.invariant_of-self-2
invariant_of-self-2 c =
    change_whole c.args.key.now c.args.path.now _ c.self.invariant _ c.self.view_is _ c.in_ok-get_mut.ensures.value _ _ (c.get_mut.follows.holds _).0 (c.get_mut.follows.holds _).4 _ c.take.ensures.rows

pub returns-clause-rows : goal.returns-clause-rows
returns-clause-rows c =
    change_rows c.args.key.now c.args.path.now _ c.self.invariant _ c.self.view_is _ c.in_ok-get_mut.ensures.value _ _ (c.get_mut.follows.holds _).0 (c.get_mut.follows.holds _).4 _ c.take.ensures.rows

pub returns-clause-given : goal.returns-clause-given
returns-clause-given c =
    let there = row_there c.args.key.now c.args.path.now _ c.self.invariant _ c.self.view_is _ c.in_ok-get_mut.ensures.value in rw there c.take.ensures.given
