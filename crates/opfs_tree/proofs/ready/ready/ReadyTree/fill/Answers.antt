use Rattle.std.proofs.Common.{sym, ap, ◌∙◌}
use Rattle.opfs_tree.specs.Rows.{row_at}
use Rattle.opfs_tree.specs.Ready.Ready.{ReadyRows}
use Rattle.opfs_tree.proofs.ready.Kept.{spare-free}
use Rattle.opfs_tree.proofs.ready.ready.ReadyTree.fill.Goals as goal

pub returns-in-Some-clause-free : goal.returns-in-Some-clause-free
returns-in-Some-clause-free c = λ place kind is.
    ap (λ (s : ReadyRows). row_at place s.rows) (sym c.self.view_is) ∙ spare-free c.self.inside.ready c.self.inside.tree place kind c.self.invariant (ap (λ (s : ReadyRows). s.ready) c.self.view_is ∙ is)
