use Rattle.std.proofs.Common.{List, Some, sym, ap, ◌∙◌, rules, slice_set}
use Rattle.opfs_machine.specs.declared.own.Outline.{Outline}
use Rattle.opfs_register.specs.declared.open.HeldRow.{HeldRow}
use Rattle.opfs_register.specs.Slots.{outline_in, place_in, rows_in, Rowed}
use Rattle.opfs_register.proofs.KeptRows.{row-kept, place-inside, row-replaced, row-was}
use Rattle.opfs_register.proofs.rows.OwnRows.replace.Goals as goal

pub unreachable-requires : goal.unreachable-requires
unreachable-requires c =
    let rows = c.self.inside in
    let held = c.self.invariant.0 in
    row-kept rows.numbers.items rows.slots.items rows.count held.rising held.paired c.args.n (rw (← c.self.view_is) at c.requires)
    (ap (λ ns. place_in ns c.args.n) (sym c.as_slice.ensures.value) ∙ sym c.place_of.ensures ∙ c.in_default.is)

pub index_mut-requires : goal.index_mut-requires
index_mut-requires c =
    let rows = c.self.inside in
    let held = c.self.invariant.0 in
    let inside =
    place-inside rows.numbers.items rows.slots.items rows.count held.rising held.paired c.args.n c.in-Some.place
    (ap (λ ns. place_in ns c.args.n) (sym c.as_slice.ensures.value) ∙ sym c.place_of.ensures ∙ c.in-Some.is) in
    search (rules, inside)

pub returns-clause-rows : goal.returns-clause-rows
returns-clause-rows c =
    let rows = c.self.inside in
    let held = c.self.invariant.0 in
    let with : List Outline → Rowed = λ own. record { own = own; ready = rows.ready } in
    rw (← c.self.view_is)
    (ap with
    (row-replaced rows.numbers.items rows.slots.items rows.count held.rising held.paired c.args.n c.in-Some.place c.replace.new.dest
    (ap (λ ns. place_in ns c.args.n) (sym c.as_slice.ensures.value) ∙ sym c.place_of.ensures ∙ c.in-Some.is)
    ∙ ap (λ (v : HeldRow). slice_set (rows_in rows.numbers.items rows.slots.items rows.count) c.args.n (outline_in v)) c.replace.ensures.after))

pub returns-clause-old : goal.returns-clause-old
returns-clause-old c =
    let rows = c.self.inside in
    let held = c.self.invariant.0 in
    rw (← c.self.view_is)
    (row-was rows.numbers.items rows.slots.items rows.count held.rising held.paired c.args.n c.in-Some.place c.index_mut.result.now
    (ap (λ ns. place_in ns c.args.n) (sym c.as_slice.ensures.value) ∙ sym c.place_of.ensures ∙ c.in-Some.is) c.index_mut.ensures.value
    ∙ ap (λ (v : HeldRow). Some (outline_in v)) (sym c.replace.ensures.value))
