use Rattle.std.proofs.Common.{Some, ap, ◌∙◌}
use Rattle.opfs_base.specs.Places.{Place}
use Rattle.opfs_tree.specs.Ready.Ready.{ReadyRows}
use Rattle.opfs_tree.proofs.ready.Kept.{prepared}
use Rattle.opfs_tree.proofs.ready.ready.ReadyTree.prepare.Goals as goal

pub invariant_of-self-2 : goal.invariant_of-self-2
invariant_of-self-2 c =
    let seen = c.self.view_is ∙ c.cancel.ensures in
    (prepared (c.args.key.now, c.args.path.now) c.args.kind c.self.inside.ready c.set_ready.new.ready c.self.inside.tree c.add.new.self c.args.self.now.rows c.new_row-row.result (ap (λ (s : ReadyRows). s.ready) seen) (ap (λ (s : ReadyRows). s.rows) seen)
    c.know_order.ensures.order c.know_order.ensures.closed c.requires.free c.new_row-row.ensures c.in_ok-add.ensures.ok (c.set_ready.ensures ∙ ap (λ (x : Place). Some (x, c.args.kind)) c.in_ok-place.ensures)).0

pub returns-clause-ok : goal.returns-clause-ok
returns-clause-ok c =
    let seen = c.self.view_is ∙ c.cancel.ensures in
    let rows =
    (prepared (c.args.key.now, c.args.path.now) c.args.kind c.self.inside.ready c.set_ready.new.ready c.self.inside.tree c.add.new.self c.args.self.now.rows c.new_row-row.result (ap (λ (s : ReadyRows). s.ready) seen) (ap (λ (s : ReadyRows). s.rows) seen)
    c.know_order.ensures.order c.know_order.ensures.closed c.requires.free c.new_row-row.ensures c.in_ok-add.ensures.ok (c.set_ready.ensures ∙ ap (λ (x : Place). Some (x, c.args.kind)) c.in_ok-place.ensures)).1 in
    let ready = c.set_ready.ensures ∙ ap (λ (x : Place). Some (x, c.args.kind)) c.in_ok-place.ensures in
    λ i. record { rows = rows i; ready = ready i }
