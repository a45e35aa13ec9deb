use Rattle.std.proofs.Common.{ap, ◌∙◌}
use Rattle.opfs_tree.specs.Units.{all_rows}
use Rattle.opfs_tree.proofs.Whole.{change_rows, change_whole, change_missing}
use Rattle.opfs_tree.proofs.tree.Tree.set_present.Goals as goal

pub returns-in_default : goal.returns-in_default
returns-in_default c =
    ap (λ m. all_rows m.entries) c.get_mut.follows.holds-at-none
    ∙ (c.self.view_is ∙ change_missing c.args.key.now c.args.path.now _ c.self.invariant _ c.self.view_is c.in_default.ensures.value _)

pub invariant_of-self-2 : goal.invariant_of-self-2
invariant_of-self-2 c =
    change_whole c.args.key.now c.args.path.now _ c.self.invariant _ c.self.view_is _ c.in-Some.ensures.value _ _ (c.get_mut.follows.holds _).0 (c.get_mut.follows.holds _).4 _ c.set_present.ensures

pub returns : goal.returns
returns c =
    change_rows c.args.key.now c.args.path.now _ c.self.invariant _ c.self.view_is _ c.in-Some.ensures.value _ _ (c.get_mut.follows.holds _).0 (c.get_mut.follows.holds _).4 _ c.set_present.ensures
