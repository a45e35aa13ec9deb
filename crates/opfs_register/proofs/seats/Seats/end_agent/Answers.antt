use Rattle.std.proofs.Common.{List, None, false, refl, ap}
use Rattle.opfs_machine.specs.declared.own.Outline.{Outline}
use Rattle.opfs_machine.specs.declared.state.Agent.{Agent}
use Rattle.opfs_register.specs.LastUses.{used_in}
use Rattle.opfs_register.specs.Seating.{Seating}
use Rattle.opfs_register.proofs.Seated.{place-inside, agent-changed, kept-seated}
use Rattle.opfs_register.proofs.seats.Seats.end_agent.Goals as goal

pub invariant_of-self : goal.invariant_of-self
invariant_of-self c =
    let was = c.index_mut-seat.result.now in
    let seats = c.self.inside.items.items in
    let inside = place-inside seats c.args.at (rw (← c.self.view_is) at c.requires) in
    kept-seated seats c.args.at was inside c.index_mut-seat.ensures.value c.self.inside.room c.self.inside.uses (record was { live = false; waits = None }) c.self.invariant refl (λ ready. ready)

pub returns : goal.returns
returns c =
    let was = c.index_mut-seat.result.now in
    let seats = c.self.inside.items.items in
    let inside = place-inside seats c.args.at (rw (← c.self.view_is) at c.requires) in
    let with : List (Agent Outline) → Seating = λ agents. record { agents = agents; room = c.self.inside.room; used = used_in c.self.inside.uses } in
    rw (← c.self.view_is) (ap with (agent-changed seats c.args.at was inside c.index_mut-seat.ensures.value (λ a. record a { live = false; waits = None }) (record was { live = false; waits = None }) refl))
