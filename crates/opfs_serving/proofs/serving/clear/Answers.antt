use Rattle.std.proofs.Common.{length, sym, ap, ◌∙◌}
use Rattle.opfs_serving.proofs.Cleared.{gone-last, gone-rest, is-none}
use Rattle.opfs_serving.proofs.serving.clear.Goals as goal

pub loop-seat-init : goal.loop-seat-init
loop-seat-init g c = c.requires.gone

pub destroy_empty-requires : goal.destroy_empty-requires
destroy_empty-requires g c =
    let last = gone-last c.loop-seat.seats.items c.pop.new.self.items c.in-Some.seat c.loop-seat.invariant c.in-Some.ensures.items in
    c.seat.inside.rows.ok.0 ∙ ap (λ x. length x.rows) c.seat.view_is ∙ ap length last.1

pub loop-seat-preserved : goal.loop-seat-preserved
loop-seat-preserved g c = gone-rest c.loop-seat.seats.items c.pop.new.self.items c.in-Some.seat c.loop-seat.invariant c.in-Some.ensures.items

pub unreachable-requires : goal.unreachable-requires
unreachable-requires g c =
    let last = gone-last c.loop-seat.seats.items c.pop.new.self.items c.in-Some.seat c.loop-seat.invariant c.in-Some.ensures.items in
    is-none (sym c.in_default-agent.is ∙ ap (λ x. x.agent) c.seat.view_is ∙ last.0)
