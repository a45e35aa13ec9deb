use Rattle.std.proofs.Common.{sym}
use Rattle.opfs_register.specs.Slots.{row_in}
use Rattle.opfs_register.proofs.FirstValues.{length-first}
use Rattle.opfs_register.proofs.rows.OwnRows.count.Goals as goal

pub returns-clause-count : goal.returns-clause-count
returns-clause-count c =
    let rows = c.self.inside in
    rw (← c.self.view_is) (sym (length-first (row_in rows.numbers.items rows.slots.items) rows.count))
