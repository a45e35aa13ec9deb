use Rattle.std.proofs.Common.{ap, subst}
use Rattle.opfs_tree.specs.Rows.{Rows, IsInOrder, IsClosed}
use Rattle.opfs_tree.specs.Ready.Ready.{ReadyRows}
use Rattle.opfs_tree.proofs.ready.Above.{order-shown, closed-shown}
use Rattle.opfs_tree.proofs.ready.ready.ReadyTree.know_order.Goals as goal

pub returns-clause-order : goal.returns-clause-order
returns-clause-order c = subst (λ (xs : Rows). IsInOrder xs) (ap (λ (s : ReadyRows). s.rows) c.self.view_is) (order-shown c.self.inside.ready c.self.inside.tree c.self.invariant c.know_order.ensures.order)

pub returns-clause-closed : goal.returns-clause-closed
returns-clause-closed c = subst (λ (xs : Rows). IsClosed xs) (ap (λ (s : ReadyRows). s.rows) c.self.view_is) (closed-shown c.self.inside.ready c.self.inside.tree c.know_order.ensures.closed)
