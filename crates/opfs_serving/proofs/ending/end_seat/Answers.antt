use Rattle.std.proofs.Common.{sym, ap, ◌∙◌}
use Rattle.opfs_serving.proofs.Ends.{has-left}
use Rattle.opfs_serving.proofs.ending.end_seat.Goals as goal

pub returns-clause-left : goal.returns-clause-left
returns-clause-left g c =
    has-left g.S.Store.tells c.args.hall.now c.args.seat.now c.in-Some.agent c.replace-rows.result.items c.end_agent-pass.result
    (sym (ap (λ x. x.agent) c.seat.view_is) ∙ sym c.in-Some.ensures.value) (ap (λ x. x.items) c.replace-rows.ensures.value ∙ ap (λ x. x.rows) c.seat.view_is)
    c.end_agent-pass.ensures.ran g.S.Chronicle.entries c.args.watch c.end_agent-pass.new.watch c.learn.new.self c.join.new.self c.learn.new.pass c.end_agent-pass.ensures.same
    c.end_agent-pass.ensures.over c.end_agent-pass.ensures.agent c.end_agent-pass.ensures.alone
    c.learn.ensures.same c.learn.ensures.pass c.learn.ensures.last c.join.ensures.pass c.join.ensures.last
