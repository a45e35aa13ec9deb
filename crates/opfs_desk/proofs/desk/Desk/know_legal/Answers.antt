use Rattle.std.proofs.Common.{[]}
use Rattle.opfs_machine.specs.Histories.{state_after}
use Rattle.opfs_books.specs.Openings.Openings.{fixed_by}
use Rattle.opfs_desk_steps.specs.Parts.Seen.{book_in}
use Rattle.opfs_desk.specs.Seen.{DeskSeen, entries_of}
use Rattle.opfs_desk.proofs.Shown.{is-legal}
use Rattle.opfs_desk.proofs.desk.Desk.know_legal.Goals as goal

pub returns-clause-legal : goal.returns-clause-legal
returns-clause-legal g c =
    let d : DeskSeen g.row.D.Denot = record { fixed = fixed_by g.D.Disk c.self.inside.from.value c.self.inside.agents.value.items; parts = c.self.inside.parts } in
    rw (← c.self.view_is) (is-legal g.D.Disk d c.self.invariant.rest.held.recorded c.self.invariant.rest.held.are)

pub returns-clause-short : goal.returns-clause-short
returns-clause-short g c =
    let d : DeskSeen g.row.D.Denot = record { fixed = fixed_by g.D.Disk c.self.inside.from.value c.self.inside.agents.value.items; parts = c.self.inside.parts } in
    rw (← c.self.view_is)
    (c.the_state_is_kept.ensures.short d.fixed c.self.invariant.rest.held.recorded (state_after d.fixed.opening (entries_of d)) [] (book_in d.parts.ledger) d.parts.ledger.journal c.self.invariant.rest.held.are.books)
