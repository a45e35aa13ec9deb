use Rattle.std.proofs.Common.{ℕ, List, refl, ap, ◌∙◌}
use Rattle.opfs_machine.specs.declared.own.Outline.{Outline}
use Rattle.opfs_machine.specs.declared.state.Agent.{Agent}
use Rattle.opfs_register.specs.LastUses.{used_in}
use Rattle.opfs_register.specs.Seating.{Seating, agent_seen, noted}
use Rattle.opfs_register.specs.Slots.{Rowed}
use Rattle.opfs_register.proofs.Seated.{place-inside, agent-was, agent-changed, kept-seated}
use Rattle.opfs_register.proofs.seats.Seats.note.Goals as goal

pub add_iterators-requires : goal.add_iterators-requires
add_iterators-requires c =
    let seats = c.self.inside.items.items in
    let was = c.index_mut-seat.result.now in
    let inside = place-inside seats c.args.at (rw (← c.self.view_is) at c.requires.inside) in
    rw (← ap (λ (a : Agent Outline). a.own) (agent-was seats c.args.at was inside c.index_mut-seat.ensures.value)) (rw (← c.self.view_is) at c.requires.few)

pub invariant_of-self : goal.invariant_of-self
invariant_of-self c =
    let was = c.index_mut-seat.result.now in
    let seats = c.self.inside.items.items in
    let inside = place-inside seats c.args.at (rw (← c.self.view_is) at c.requires.inside) in
    kept-seated seats c.args.at was inside c.index_mut-seat.ensures.value c.self.inside.room c.self.inside.uses (record was { moment = c.unwrap_or-seat.result; rows = c.add_iterators.new.self }) c.self.invariant refl
    (λ ready. ap (λ (x : Rowed). x.ready) c.add_iterators.ensures ∙ ready)

pub returns : goal.returns
returns c =
    let was = c.index_mut-seat.result.now in
    let seats = c.self.inside.items.items in
    let inside = place-inside seats c.args.at (rw (← c.self.view_is) at c.requires.inside) in
    let with : List (Agent Outline) → Seating = λ agents. record { agents = agents; room = c.self.inside.room; used = used_in c.self.inside.uses } in
    let made : ℕ → List Outline → Agent Outline = λ moment own. record (agent_seen was) { moment = moment; own = own } in
    rw (← c.self.view_is)
    (ap with
    (agent-changed seats c.args.at was inside c.index_mut-seat.ensures.value (λ a. noted a c.args.more c.args.moment) (record was { moment = c.unwrap_or-seat.result; rows = c.add_iterators.new.self })
    (ap (λ moment. made moment c.add_iterators.new.self.own) c.unwrap_or-seat.ensures ∙ ap (λ (x : Rowed). made (noted (agent_seen was) c.args.more c.args.moment).moment x.own) c.add_iterators.ensures)))
