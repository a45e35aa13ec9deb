use Rattle.std.proofs.Common.{◌+◌, List, arith, ap}
use Rattle.opfs_machine.specs.declared.own.Outline.{Outline}
use Rattle.opfs_register.specs.Slots.{Rowed, row_in}
use Rattle.opfs_register.proofs.FirstValues.{length-first}
use Rattle.opfs_register.proofs.KeptRows.{rows-more, rises-more}
use Rattle.opfs_register.proofs.rows.OwnRows.add_iterators.Goals as goal

pub overflow_add-self : goal.overflow_add-self
overflow_add-self c =
    let rows = c.self.inside in
    let count = length-first (row_in rows.numbers.items rows.slots.items) rows.count in
    let few = rw (← c.self.view_is) at c.requires in
    omega (arith, few, count)

pub invariant_of-self : goal.invariant_of-self
invariant_of-self c =
    let rows = c.self.inside in
    let held = c.self.invariant.0 in
    let count = length-first (row_in rows.numbers.items rows.slots.items) rows.count in
    let few = rw (← c.self.view_is) at c.requires in (
      record {
        few = omega (arith, few, count);
        paired = held.paired;
        rising = rises-more rows.numbers.items 0 rows.count (rows.count + c.args.more) (omega arith) held.rising;
      },
      c.self.invariant.1,
    )

pub returns : goal.returns
returns c =
    let rows = c.self.inside in
    let held = c.self.invariant.0 in
    let with : List Outline → Rowed = λ own. record { own = own; ready = rows.ready } in
    rw (← c.self.view_is) (ap with (rows-more rows.numbers.items rows.slots.items rows.count held.rising held.paired c.args.more))
