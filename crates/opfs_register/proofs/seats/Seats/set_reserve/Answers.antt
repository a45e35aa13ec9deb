use Rattle.std.proofs.Common.{List, refl, sym, ap, ◌∙◌}
use Rattle.opfs_machine.specs.declared.own.Outline.{Outline}
use Rattle.opfs_machine.specs.declared.state.Agent.{Agent}
use Rattle.opfs_register.specs.LastUses.{used_in}
use Rattle.opfs_register.specs.Seating.{Seating}
use Rattle.opfs_register.specs.Slots.{keeping, Rowed}
use Rattle.opfs_register.proofs.Seated.{seat-inside, slot-was, slot-changed, kept-seated}
use Rattle.opfs_register.proofs.seats.Seats.set_reserve.Goals as goal

pub invariant_of-self : goal.invariant_of-self
invariant_of-self c =
    let was = c.index_mut.result.now in
    let inside = seat-inside c.self.inside.items.items c.args.at c.args.n (rw (← c.self.view_is) at c.requires) in
    kept-seated c.self.inside.items.items c.args.at was inside c.index_mut.ensures.value c.self.inside.room c.self.inside.uses (record was { rows = c.set_reserve.new.self })
    c.self.invariant refl (λ ready. c.set_reserve.ensures.ready ∙ ready)

pub returns : goal.returns
returns c =
    let was = c.index_mut.result.now in
    let seats = c.self.inside.items.items in
    let inside = seat-inside seats c.args.at c.args.n (rw (← c.self.view_is) at c.requires) in
    let with : List (Agent Outline) → Seating = λ agents. record { agents = agents; room = c.self.inside.room; used = used_in c.self.inside.uses } in
    rw (← c.self.view_is) (λ r found.
    let rows = c.set_reserve.ensures.rows r (sym (slot-was seats c.args.at was inside c.index_mut.ensures.value c.args.n) ∙ found) in
    ap with (slot-changed seats c.args.at was inside c.index_mut.ensures.value c.args.n (keeping c.args.reserve r) c.set_reserve.new.self (ap (λ (x : Rowed). x.own) rows)))
