use Rattle.std.proofs.Common.{length, ap, ◌∙◌, arith}
use Rattle.opfs_tree.specs.Rows.{extents_within}
use Rattle.opfs_tree.specs.Ready.Ready.{ReadyRows}
use Rattle.opfs_tree.proofs.ready.Kept.{extents-shown}
use Rattle.opfs_tree.proofs.ready.ready.ReadyTree.extents_below.Goals as goal

pub extents_below-requires : goal.extents_below-requires
extents_below-requires c =
    let same = ap length (extents-shown (c.args.key.now, c.args.path.now) c.self.inside.ready c.self.inside.tree c.self.invariant ∙ ap (λ (s : ReadyRows). extents_within (c.args.key.now, c.args.path.now) s.rows) c.self.view_is) in
    omega (arith, c.requires, same)

pub returns : goal.returns
returns c = c.extents_below.ensures ∙ ap length (extents-shown (c.args.key.now, c.args.path.now) c.self.inside.ready c.self.inside.tree c.self.invariant ∙ ap (λ (s : ReadyRows). extents_within (c.args.key.now, c.args.path.now) s.rows) c.self.view_is)
