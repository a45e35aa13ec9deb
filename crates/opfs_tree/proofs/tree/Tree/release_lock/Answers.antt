use Rattle.std.proofs.Common.{◌≡◌, true, false}
use Rattle.opfs_tree.proofs.Whole.{row_there, row_missing, change_rows, change_whole}
use Rattle.opfs_tree.proofs.tree.Tree.release_lock.Goals as goal

pub unreachable-requires : goal.unreachable-requires
unreachable-requires c =
    let missing = row_missing c.args.key.now c.args.path.now _ c.self.invariant _ c.self.view_is c.in-None.ensures.value in
    let there : false ≡ true = rw missing at c.requires.there in cc

pub release-requires-clause-there : goal.release-requires-clause-there
release-requires-clause-there c =
    let there = row_there c.args.key.now c.args.path.now _ c.self.invariant _ c.self.view_is _ c.in-Some.ensures.value in rw there at c.requires.there

pub release-requires-clause-taken : goal.release-requires-clause-taken
release-requires-clause-taken c =
    let there = row_there c.args.key.now c.args.path.now _ c.self.invariant _ c.self.view_is _ c.in-Some.ensures.value in rw there at c.requires.taken

pub invariant_of-self : goal.invariant_of-self
invariant_of-self c =
    change_whole c.args.key.now c.args.path.now _ c.self.invariant _ c.self.view_is _ c.in-Some.ensures.value _ _ (c.get_mut.follows.holds _).0 (c.get_mut.follows.holds _).4 _ c.release.ensures.rows

pub returns : goal.returns
returns c =
    change_rows c.args.key.now c.args.path.now _ c.self.invariant _ c.self.view_is _ c.in-Some.ensures.value _ _ (c.get_mut.follows.holds _).0 (c.get_mut.follows.holds _).4 _ c.release.ensures.rows
