use Rattle.std.proofs.Common.{List, sym, ap, ◌∙◌, rules}
use Rattle.opfs_machine.specs.declared.own.Outline.{Outline}
use Rattle.opfs_register.specs.Slots.{place_in, Rowed}
use Rattle.opfs_register.proofs.KeptRows.{nothing-kept, place-inside, row-kept_so}
use Rattle.opfs_register.proofs.rows.OwnRows.set_reserve.Goals as goal

pub returns-in_default-clause-rows : goal.returns-in_default-clause-rows
returns-in_default-clause-rows c =
    let rows = c.self.inside in
    let held = c.self.invariant.0 in
    let with : List Outline → Rowed = λ own. record { own = own; ready = rows.ready } in
    rw (← c.self.view_is) (λ r there.
    ap with
    (nothing-kept rows.numbers.items rows.slots.items rows.count held.rising held.paired c.args.n c.args.reserve
    (ap (λ ns. place_in ns c.args.n) (sym c.as_slice.ensures.value) ∙ sym c.place_of.ensures ∙ c.in_default.is) r there))

pub index_mut-requires : goal.index_mut-requires
index_mut-requires c =
    let rows = c.self.inside in
    let held = c.self.invariant.0 in
    let inside =
    place-inside rows.numbers.items rows.slots.items rows.count held.rising held.paired c.args.n c.in-Some.place
    (ap (λ ns. place_in ns c.args.n) (sym c.as_slice.ensures.value) ∙ sym c.place_of.ensures ∙ c.in-Some.is) in
    search (rules, inside)

pub returns-clause-rows : goal.returns-clause-rows
returns-clause-rows c =
    let rows = c.self.inside in
    let held = c.self.invariant.0 in
    let with : List Outline → Rowed = λ own. record { own = own; ready = rows.ready } in
    rw (← c.self.view_is) (λ r there.
    ap with
    (row-kept_so rows.numbers.items rows.slots.items rows.count held.rising held.paired c.args.n c.in-Some.place c.args.reserve c.index_mut.result.now c.set_reserve.new.self
    (ap (λ ns. place_in ns c.args.n) (sym c.as_slice.ensures.value) ∙ sym c.place_of.ensures ∙ c.in-Some.is) c.index_mut.ensures.value c.set_reserve.ensures r there))
