use Rattle.std.proofs.Common.{sym, ap, ◌∙◌}
use Rattle.std.specs.List.{list_any}
use Rattle.opfs_machine.specs.Agents.{is_open_row}
use Rattle.opfs_register.specs.Slots.{outline_in}
use Rattle.opfs_register.proofs.KeptRows.{any-open}
use Rattle.opfs_register.proofs.rows.OwnRows.has_open.Goals as goal

pub returns : goal.returns
returns c =
    let rows = c.self.inside in
    let held = c.self.invariant.0 in
    rw (← c.self.view_is) (c.any_open.ensures ∙ ap (list_any (λ s. is_open_row (outline_in s))) c.as_slice.ensures.value ∙ sym (any-open rows.numbers.items rows.slots.items 0 rows.count held.rising held.paired))
