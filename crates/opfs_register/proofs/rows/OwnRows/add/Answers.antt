use Rattle.std.proofs.Common.{List, false, arith, ap}
use Rattle.opfs_machine.specs.declared.own.Outline.{Outline}
use Rattle.opfs_register.specs.Slots.{Rowed, row_in}
use Rattle.opfs_register.proofs.FirstValues.{length-first}
use Rattle.opfs_register.proofs.KeptRows.{rows-added, numbered-and}
use Rattle.opfs_register.proofs.rows.OwnRows.add.Goals as goal

pub invariant_of-self : goal.invariant_of-self
invariant_of-self c =
    let rows = c.self.inside in
    let held = c.self.invariant.0 in
    let count = length-first (row_in rows.numbers.items rows.slots.items) rows.count in
    let few = rw (← c.self.view_is) at c.requires.few in
    (rw (c.push_reserved.ensures.items, c.push_reserved-2.ensures.items) (numbered-and rows.numbers.items rows.slots.items rows.count c.args.slot held (omega (arith, few, count))), λ never. cc)

pub returns : goal.returns
returns c =
    let rows = c.self.inside in
    let held = c.self.invariant.0 in
    let with : List Outline → Rowed = λ own. record { own = own; ready = false } in
    rw (← c.self.view_is)
    (rw (c.push_reserved.ensures.items, c.push_reserved-2.ensures.items)
    (ap with (rows-added rows.numbers.items rows.slots.items rows.count held.rising held.paired c.args.slot)))
