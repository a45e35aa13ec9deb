use Rattle.std.proofs.Common.{◌≡◌, suc, Some, None, sym, ap, ◌∙◌}
use Rattle.opfs_machine.specs.Agents.{agent_in}
use Rattle.opfs_machine.specs.declared.own.Outline.{Outline}
use Rattle.opfs_machine.specs.declared.state.Agent.{Agent}
use Rattle.opfs_register.specs.LastUses.{Counts, used_in}
use Rattle.opfs_register.specs.Seating.{Seating, agents_seen, used_by}
use Rattle.opfs_register.proofs.Seated.{place-inside, agent-was, known-was}
use Rattle.opfs_register.proofs.seats.Seats.set_used.Goals as goal

pub set-requires-clause-known : goal.set-requires-clause-known
set-requires-clause-known c =
    let seats = c.self.inside.items.items in
    let inside = place-inside seats c.args.at (rw (← c.self.view_is) at c.requires.inside) in
    known-was seats c.args.at c.index.result.now inside c.index.ensures c.self.inside.room c.self.inside.uses c.self.invariant c.in-Some.origin c.in-Some.is

pub returns-in-Some : goal.returns-in-Some
returns-in-Some c =
    let seats = c.self.inside.items.items in
    let inside = place-inside seats c.args.at (rw (← c.self.view_is) at c.requires.inside) in
    let with : Counts → Seating = λ used. record { agents = agents_seen seats; room = c.self.inside.room; used = used } in
    let key : (agent_in (agents_seen seats) (suc c.args.at)).key ≡ Some c.in-Some.origin = ap (λ (a : Agent Outline). a.key) (agent-was seats c.args.at c.index.result.now inside c.index.ensures) ∙ c.in-Some.is in
    rw (← c.self.view_is) (ap with (c.set.ensures.used ∙ sym (ap (λ o. used_by (used_in c.self.inside.uses) o c.args.number) key)))

pub returns-in_default : goal.returns-in_default
returns-in_default c =
    let seats = c.self.inside.items.items in
    let inside = place-inside seats c.args.at (rw (← c.self.view_is) at c.requires.inside) in
    let with : Counts → Seating = λ used. record { agents = agents_seen seats; room = c.self.inside.room; used = used } in
    let key : (agent_in (agents_seen seats) (suc c.args.at)).key ≡ None = ap (λ (a : Agent Outline). a.key) (agent-was seats c.args.at c.index.result.now inside c.index.ensures) ∙ c.in_default.is in
    rw (← c.self.view_is) (ap with (sym (ap (λ o. used_by (used_in c.self.inside.uses) o c.args.number) key)))
