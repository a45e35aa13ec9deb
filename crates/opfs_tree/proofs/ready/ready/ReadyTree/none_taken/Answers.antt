use Rattle.std.proofs.Common.{ap, ◌∙◌}
use Rattle.opfs_tree.specs.Rows.{none_taken}
use Rattle.opfs_tree.specs.Ready.Ready.{ReadyRows}
use Rattle.opfs_tree.proofs.ready.Kept.{taken-shown}
use Rattle.opfs_tree.proofs.ready.ready.ReadyTree.none_taken.Goals as goal

pub returns : goal.returns
returns c = c.none_taken.ensures ∙ (taken-shown c.self.inside.ready c.self.inside.tree c.args.key.now c.self.invariant ∙ ap (λ (s : ReadyRows). none_taken c.args.key.now s.rows) c.self.view_is)
