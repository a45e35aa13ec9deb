use Rattle.std.proofs.Common.{Option, Some, None, IfNone, sym, ap, subst, ◌∙◌}
use Rattle.opfs_tree.specs.Rows.{Rows, rows_above, IsInOrder}
use Rattle.opfs_tree.specs.Ready.Ready.{ReadyRows}
use Rattle.opfs_tree.proofs.ready.Above.{Goes, goes-over, ends-again, goes-again, none-above, order-shown, if-some, if-none}
use Rattle.opfs_tree.proofs.ready.ready.ReadyTree.step.Goals as goal

pub returns-in_err-row-clause-end : goal.returns-in_err-row-clause-end
returns-in_err-row-clause-end c =
    anyway c.from_residual.result (ap (rows_above c.args.walk.now) (sym (ap (λ (s : ReadyRows). s.rows) c.self.view_is)) ∙ none-above c.self.inside.ready c.self.inside.tree c.args.walk.now c.in_err-row.ensures.end.0)
  where
    anyway : {X P : Type 0} (o : Option X) → P → IfNone o P
    anyway None p = p
    anyway (Some x) p = tt

pub returns-in_err-row-clause-order : goal.returns-in_err-row-clause-order
returns-in_err-row-clause-order c = subst (λ (xs : Rows). IsInOrder xs) (ap (λ (s : ReadyRows). s.rows) c.self.view_is) (order-shown c.self.inside.ready c.self.inside.tree c.self.invariant c.step.ensures.order)

pub returns-then-is_ready-clause-end : goal.returns-then-is_ready-clause-end
returns-then-is_ready-clause-end c =
    if-none c.step-then-is_ready.result (λ e. ends-again c.self.inside.ready c.self.inside.tree c.args.self.now.rows c.self.invariant (ap (λ (s : ReadyRows). s.rows) c.self.view_is) c.args.walk.now c.step.new.walk c.in_ok-row.row.now c.key.result.now c.path.result.now c.key.ensures c.path.ensures c.in_ok-row.ensures.next (sym c.is_ready.ensures ∙ c.if-is_ready.true) e.0) c.step-then-is_ready.ensures.end

pub returns-then-is_ready-clause-next : goal.returns-then-is_ready-clause-next
returns-then-is_ready-clause-next c =
    if-some c.step-then-is_ready.result (λ row. Goes c.step.new.walk c.step-then-is_ready.new.walk row.now c.self.inside.tree) (λ row. Goes c.args.walk.now c.step-then-is_ready.new.walk row.now c.args.self.now.rows)
    (λ row g. goes-again c.self.inside.ready c.self.inside.tree c.args.self.now.rows c.self.invariant (ap (λ (s : ReadyRows). s.rows) c.self.view_is) c.args.walk.now c.step.new.walk c.in_ok-row.row.now c.key.result.now c.path.result.now c.key.ensures c.path.ensures c.in_ok-row.ensures.next (sym c.is_ready.ensures ∙ c.if-is_ready.true) c.step-then-is_ready.new.walk row.now g) c.step-then-is_ready.ensures.next

pub returns-then-is_ready-clause-order : goal.returns-then-is_ready-clause-order
returns-then-is_ready-clause-order c = subst (λ (xs : Rows). IsInOrder xs) (ap (λ (s : ReadyRows). s.rows) c.self.view_is) (order-shown c.self.inside.ready c.self.inside.tree c.self.invariant c.step.ensures.order)

pub returns-clause-next : goal.returns-clause-next
returns-clause-next c = goes-over c.self.inside.ready c.self.inside.tree c.args.self.now.rows c.self.invariant (ap (λ (s : ReadyRows). s.rows) c.self.view_is) c.args.walk.now c.step.new.walk c.in_ok-row.row.now c.key.result.now c.path.result.now c.key.ensures c.path.ensures c.in_ok-row.ensures.next (sym c.is_ready.ensures ∙ c.if-is_ready.false)

pub returns-clause-order : goal.returns-clause-order
returns-clause-order c = subst (λ (xs : Rows). IsInOrder xs) (ap (λ (s : ReadyRows). s.rows) c.self.view_is) (order-shown c.self.inside.ready c.self.inside.tree c.self.invariant c.step.ensures.order)
