use Rattle.std.proofs.Common.{List, [], ◌∷◌, ◌++◌, None, refl, ap}
use Rattle.opfs_machine.specs.declared.own.Outline.{Outline}
use Rattle.opfs_machine.specs.declared.state.Agent.{Agent}
use Rattle.opfs_register.specs.LastUses.{used_in}
use Rattle.opfs_register.specs.Seating.{Seating, agent_seen}
use Rattle.opfs_register.specs.Slots.{outline_in, Rowed}
use Rattle.opfs_register.proofs.Seated.{place-inside, agent-was, agent-changed, ready-was, reseated}
use Rattle.opfs_register.proofs.seats.Seats.add_row.Goals as goal

pub add-requires-clause-ready : goal.add-requires-clause-ready
add-requires-clause-ready c =
    let seats = c.self.inside.items.items in
    let inside = place-inside seats c.args.at (rw (← c.self.view_is) at c.requires.inside) in
    ready-was seats c.args.at c.index_mut.result.now inside c.index_mut.ensures.value c.self.inside.room c.self.inside.uses c.self.invariant (rw (← c.self.view_is) at c.requires.room)

pub add-requires-clause-few : goal.add-requires-clause-few
add-requires-clause-few c =
    let seats = c.self.inside.items.items in
    let inside = place-inside seats c.args.at (rw (← c.self.view_is) at c.requires.inside) in
    rw (← ap (λ (a : Agent Outline). a.own) (agent-was seats c.args.at c.index_mut.result.now inside c.index_mut.ensures.value)) (rw (← c.self.view_is) at c.requires.few)

pub invariant_of-self : goal.invariant_of-self
invariant_of-self c =
    let was = c.index_mut.result.now in
    let seats = c.self.inside.items.items in
    let inside = place-inside seats c.args.at (rw (← c.self.view_is) at c.requires.inside) in
    reseated seats c.args.at was inside c.index_mut.ensures.value c.self.inside.room None c.self.inside.uses (record was { rows = c.add.new.self }) c.self.invariant refl (λ k never. cc)

pub returns : goal.returns
returns c =
    let was = c.index_mut.result.now in
    let seats = c.self.inside.items.items in
    let inside = place-inside seats c.args.at (rw (← c.self.view_is) at c.requires.inside) in
    let with : List (Agent Outline) → Seating = λ agents. record { agents = agents; room = None; used = used_in c.self.inside.uses } in
    let made : List Outline → Agent Outline = λ own. record (agent_seen was) { own = own } in
    rw (← c.self.view_is)
    (ap with
    (agent-changed seats c.args.at was inside c.index_mut.ensures.value (λ a. record a { own = a.own ++ outline_in c.args.slot ∷ [] }) (record was { rows = c.add.new.self })
    (ap (λ (x : Rowed). made x.own) c.add.ensures)))
