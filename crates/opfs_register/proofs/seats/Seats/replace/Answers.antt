use Rattle.std.proofs.Common.{List, refl, ap, ◌∙◌}
use Rattle.opfs_machine.specs.declared.own.Outline.{Outline}
use Rattle.opfs_machine.specs.declared.state.Agent.{Agent}
use Rattle.opfs_register.specs.LastUses.{used_in}
use Rattle.opfs_register.specs.Seating.{Seating}
use Rattle.opfs_register.specs.Slots.{outline_in, Rowed}
use Rattle.opfs_register.proofs.Seated.{slot-was, slot-changed, kept-seated, kept-inside}
use Rattle.opfs_register.proofs.seats.Seats.replace.Goals as goal

pub replace-requires : goal.replace-requires
replace-requires c =
    let was = c.index_mut.result.now in
    let seats = c.self.inside.items.items in
    let there = rw (← c.self.view_is) at c.requires in
    let inside = kept-inside seats c.args.at c.args.n there in
    rw (← slot-was seats c.args.at was inside c.index_mut.ensures.value c.args.n) there

pub invariant_of-self : goal.invariant_of-self
invariant_of-self c =
    let was = c.index_mut.result.now in
    let seats = c.self.inside.items.items in
    let inside = kept-inside seats c.args.at c.args.n (rw (← c.self.view_is) at c.requires) in
    kept-seated seats c.args.at was inside c.index_mut.ensures.value c.self.inside.room c.self.inside.uses (record was { rows = c.replace.new.self }) c.self.invariant refl
    (λ ready. ap (λ (x : Rowed). x.ready) c.replace.ensures.rows ∙ ready)

pub returns-clause-seats : goal.returns-clause-seats
returns-clause-seats c =
    let was = c.index_mut.result.now in
    let seats = c.self.inside.items.items in
    let inside = kept-inside seats c.args.at c.args.n (rw (← c.self.view_is) at c.requires) in
    let with : List (Agent Outline) → Seating = λ agents. record { agents = agents; room = c.self.inside.room; used = used_in c.self.inside.uses } in
    rw (← c.self.view_is) (ap with (slot-changed seats c.args.at was inside c.index_mut.ensures.value c.args.n (outline_in c.args.slot) c.replace.new.self (ap (λ (x : Rowed). x.own) c.replace.ensures.rows)))

pub returns-clause-old : goal.returns-clause-old
returns-clause-old c =
    let was = c.index_mut.result.now in
    let seats = c.self.inside.items.items in
    let inside = kept-inside seats c.args.at c.args.n (rw (← c.self.view_is) at c.requires) in
    rw (← c.self.view_is) (slot-was seats c.args.at was inside c.index_mut.ensures.value c.args.n ∙ c.replace.ensures.old)
