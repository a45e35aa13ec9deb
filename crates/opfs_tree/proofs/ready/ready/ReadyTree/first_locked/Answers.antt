use Rattle.std.proofs.Common.{ap, ◌∙◌}
use Rattle.opfs_tree.specs.Rows.{first_taken, rows_within}
use Rattle.opfs_tree.specs.Ready.Ready.{ReadyRows}
use Rattle.opfs_tree.proofs.ready.Kept.{locked-shown}
use Rattle.opfs_tree.proofs.ready.ready.ReadyTree.first_locked.Goals as goal

pub returns : goal.returns
returns c = c.first_locked.ensures ∙ (locked-shown (c.args.key.now, c.args.path.now) c.self.inside.ready c.self.inside.tree c.self.invariant ∙ ap (λ (s : ReadyRows). first_taken (rows_within (c.args.key.now, c.args.path.now) s.rows)) c.self.view_is)
