use Rattle.std.proofs.Common.{ap, sym, ◌∙◌}
use Rattle.opfs_tree.specs.Units.{below, has_children_in}
use Rattle.opfs_tree.proofs.Places.{has_in_unit}
use Rattle.opfs_tree.proofs.tree.Tree.has_children.Goals as goal

pub returns-in-Some : goal.returns-in-Some
returns-in-Some c =
    c.has_children.ensures ∙ (ap (λ es. has_children_in c.args.path.now (below c.args.path.now es)) c.in-Some.ensures ∙ sym (has_in_unit c.args.key.now c.args.path.now c.args.self.now))

pub returns-in-None : goal.returns-in-None
returns-in-None c =
    ap (λ es. has_children_in c.args.path.now (below c.args.path.now es)) c.in-None.ensures ∙ sym (has_in_unit c.args.key.now c.args.path.now c.args.self.now)
