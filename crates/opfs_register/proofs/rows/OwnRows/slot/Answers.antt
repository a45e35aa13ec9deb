use Rattle.std.proofs.Common.{sym, ap, ◌∙◌}
use Rattle.opfs_register.specs.Slots.{place_in}
use Rattle.std.specs.Prelude.{slice_get}
use Rattle.opfs_register.proofs.KeptRows.{slot-found, slot-missing}
use Rattle.opfs_register.proofs.rows.OwnRows.slot.Goals as goal

pub returns-in-Some : goal.returns-in-Some
returns-in-Some c =
    let rows = c.self.inside in
    let held = c.self.invariant.0 in
    rw (← c.self.view_is)
    (slot-found rows.numbers.items rows.slots.items rows.count held.rising held.paired c.args.n c.in-Some.place _
    (ap (λ ns. place_in ns c.args.n) (sym c.as_slice.ensures.value) ∙ sym c.place_of.ensures ∙ c.in-Some.is)
    (c.slot_at.ensures ∙ ap (λ ss. slice_get ss c.in-Some.place) c.as_slice-in-Some.ensures.value))

pub returns-in-None : goal.returns-in-None
returns-in-None c =
    let rows = c.self.inside in
    let held = c.self.invariant.0 in
    rw (← c.self.view_is)
    (slot-missing rows.numbers.items rows.slots.items rows.count held.rising held.paired c.args.n
    (ap (λ ns. place_in ns c.args.n) (sym c.as_slice.ensures.value) ∙ sym c.place_of.ensures ∙ c.in-None.is))
