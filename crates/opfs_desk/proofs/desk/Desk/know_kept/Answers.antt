use Rattle.opfs_desk.specs.Seen.{DeskSeen}
use Rattle.opfs_books.specs.Openings.Openings.{fixed_by}
use Rattle.opfs_desk.proofs.Shown.{keeps-all}
use Rattle.opfs_desk.proofs.desk.Desk.know_kept.Goals as goal

pub returns : goal.returns
returns g c =
    let d : DeskSeen g.row.D.Denot = record { fixed = fixed_by g.D.Disk c.self.inside.from.value c.self.inside.agents.value.items; parts = c.self.inside.parts } in
    rw (← c.self.view_is) (keeps-all g.D.Disk d c.self.invariant.rest.held.recorded c.self.invariant.rest.held.are c.the_books_show_their_images.ensures)
