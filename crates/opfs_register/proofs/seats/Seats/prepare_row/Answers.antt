use Rattle.std.proofs.Common.{List, Some, refl, ap}
use Rattle.opfs_machine.specs.declared.own.Outline.{Outline}
use Rattle.opfs_machine.specs.declared.state.Agent.{Agent}
use Rattle.opfs_register.specs.LastUses.{used_in}
use Rattle.opfs_register.specs.Seating.{Seating, agent_seen}
use Rattle.opfs_register.specs.Slots.{Rowed}
use Rattle.opfs_register.proofs.Seated.{place-inside, agent-kept, reseated, ready-here}
use Rattle.opfs_register.proofs.seats.Seats.prepare_row.Goals as goal

pub invariant_of-self-2 : goal.invariant_of-self-2
invariant_of-self-2 c =
    let was = c.index_mut.result.now in
    let seats = c.self.inside.items.items in
    let inside = place-inside seats c.args.at (rw (← c.self.view_is) at c.requires) in
    reseated seats c.args.at was inside c.index_mut.ensures.value c.self.inside.room (Some c.args.at) c.self.inside.uses (record was { rows = c.reserve.new.self }) c.self.invariant refl
    (ready-here seats c.args.at was inside c.index_mut.ensures.value (record was { rows = c.reserve.new.self }) (ap (λ (x : Rowed). x.ready) c.in_ok-reserve.ensures.ok))

pub returns-clause-ok : goal.returns-clause-ok
returns-clause-ok c =
    let was = c.index_mut.result.now in
    let seats = c.self.inside.items.items in
    let inside = place-inside seats c.args.at (rw (← c.self.view_is) at c.requires) in
    let with : List (Agent Outline) → Seating = λ agents. record { agents = agents; room = Some c.args.at; used = used_in c.self.inside.uses } in
    let made : List Outline → Agent Outline = λ own. record (agent_seen was) { own = own } in
    rw (← c.self.view_is) (ap with (agent-kept seats c.args.at was inside c.index_mut.ensures.value (record was { rows = c.reserve.new.self }) (ap (λ (x : Rowed). made x.own) c.in_ok-reserve.ensures.ok)))
