use Rattle.std.proofs.Common.{[]}
use Rattle.opfs_machine.specs.Histories.{state_after}
use Rattle.opfs_books.specs.Seen.{IsFinished}
use Rattle.opfs_books.specs.Openings.Openings.{fixed_by}
use Rattle.opfs_records.specs.Replay.Built.{Built}
use Rattle.opfs_desk_steps.specs.Parts.Held.{AreHeldWhole}
use Rattle.opfs_desk_steps.specs.Parts.Seen.{book_in}
use Rattle.opfs_desk_steps.specs.declared.parts.parts.Ledger.{Ledger}
use Rattle.opfs_desk.specs.Seen.{DeskSeen, entries_of}
use Rattle.opfs_desk.proofs.Apart.{told-apart}
use Rattle.opfs_desk.proofs.Shown.{is-legal, stands-whole, shows-ending, ends-time, ends-fronts, ends-keeping, ends-kept, ends-whole, keeps-sizes, leaves-front, counts-all}
use Rattle.opfs_desk.proofs.desk.Desk.finish.Given.{Over}
use Rattle.opfs_desk.proofs.desk.Desk.finish.Goals as goal
use Rattle.opfs_desk.proofs.desk.Desk.finish.Goals.{in-Ok, in-Err}

-- The desk as it was, what its end left of it, and what holds of the two.
module _ (g : Over) (c : goal.After-give_back g) where
  abbrev d : DeskSeen g.row.D.Denot
  d = record { fixed = fixed_by g.D.Disk c.self.inside.from.value c.self.inside.agents.value.items; parts = c.self.inside.parts }

  abbrev new : Ledger g.row.D.Denot
  new = let l = c.self.inside.parts.ledger in record { journal = c.finish.new.journal; books = c.finish.new.self; freed = l.freed; alloc = l.alloc }

  abbrev recorded : Built
  recorded = c.self.invariant.rest.held.recorded

  are : AreHeldWhole g.D.Disk d.fixed recorded d.parts.ledger d.parts.pages
  are = c.self.invariant.rest.held.are

  done : IsFinished g.D.Disk d.fixed (state_after d.fixed.opening (entries_of d)) [] (book_in d.parts.ledger) (book_in new) d.parts.ledger.journal new.journal
  done = c.finish.ensures.books d.fixed recorded (state_after d.fixed.opening (entries_of d)) [] are.books

pub returns-clause-stands : goal.returns-clause-stands
returns-clause-stands g c =
    elim c.match-finish.branch [
      | in-Ok w ↦
          rw (← c.self.view_is, w.done-is)
          (stands-whole g.D.Disk (d g c) (recorded g c) (are g c) (new g c) c.give_back.result c.give_back.ensures.disk (done g c) c.commit_laws.ensures c.finish.ensures.history w.in-Ok.ensures.none (λ t. c.give_back.ensures.records t w.in-Ok.ensures.sure))
      | in-Err w ↦ rw (w.done-is) tt
    ]

pub returns-clause-shown : goal.returns-clause-shown
returns-clause-shown g c =
    rw (← c.self.view_is) (shows-ending g.D.Disk (d g c) (recorded g c) (are g c) (new g c) c.give_back.result c.give_back.ensures.disk (done g c))

pub returns-clause-apart : goal.returns-clause-apart
returns-clause-apart g c =
    rw (← c.self.view_is, c.end-history.ensures.history, c.finish.ensures.history)
    (told-apart g.D.Disk.tells (d g c).fixed.opening (entries_of (d g c)) (are g c).books.whole (are g c).tied.keys c.each_party_runs_alone.ensures (is-legal g.D.Disk (d g c) (recorded g c) (are g c)))

pub returns-clause-fronts : goal.returns-clause-fronts
returns-clause-fronts g c =
    rw (← c.self.view_is) (ends-fronts g.D.Disk (d g c) (recorded g c) (are g c) (new g c) c.give_back.result c.give_back.ensures.disk (done g c) c.finish.ensures.leaves.time c.self.invariant.rest)

pub returns-clause-keeps : goal.returns-clause-keeps
returns-clause-keeps g c =
    rw (← c.self.view_is) (ends-kept g.D.Disk (d g c) (recorded g c) (are g c) (new g c) c.give_back.result c.give_back.ensures.disk (done g c) c.finish.ensures.leaves.time c.self.invariant.rest)

pub returns-clause-stays : goal.returns-clause-stays
returns-clause-stays g c =
    rw (← c.self.view_is) (ends-keeping g.D.Disk (d g c) (recorded g c) (are g c) (new g c) c.give_back.result c.give_back.ensures.disk (done g c) c.finish.ensures.leaves.time)

pub returns-clause-whole : goal.returns-clause-whole
returns-clause-whole g c =
    elim c.match-finish.branch [
      | in-Ok w ↦
          rw (← c.self.view_is, w.done-is)
          (ends-whole g.D.Disk (d g c) (recorded g c) (are g c) (new g c) c.give_back.result c.give_back.ensures.disk (done g c) c.finish.ensures.history (w.in-Ok.ensures.whole (d g c).fixed (recorded g c) (state_after (d g c).fixed.opening (entries_of (d g c))) [] (are g c).books))
      | in-Err w ↦ rw (w.done-is) tt
    ]

pub returns-clause-counts : goal.returns-clause-counts
returns-clause-counts g c =
    rw (← c.self.view_is) (counts-all g.D.Disk (d g c) (recorded g c) (are g c) (new g c) c.give_back.result c.give_back.ensures.disk (done g c) c.finish.ensures.history)

pub returns-clause-left : goal.returns-clause-left
returns-clause-left g c = λ t.
    rw (← c.self.view_is, c.end-history.ensures.history, c.finish.ensures.history)
    (leaves-front g.D.Disk (d g c) (recorded g c) (are g c) (new g c) c.give_back.result c.give_back.ensures.disk (done g c) c.the_books_show_their_images.ensures c.finish.ensures.history t)

pub returns-clause-sizes : goal.returns-clause-sizes
returns-clause-sizes g c =
    rw (← c.self.view_is) (keeps-sizes g.D.Disk (d g c) (recorded g c) (are g c) (new g c) c.give_back.result c.give_back.ensures.disk (done g c))

pub returns-clause-time : goal.returns-clause-time
returns-clause-time g c =
    rw (← c.self.view_is) (ends-time g.D.Disk (d g c) (recorded g c) (are g c) (new g c) c.give_back.result c.give_back.ensures.disk (done g c) (λ t. g.met.D.Disk.falls t) c.self.invariant.rest.time c.finish.ensures.leaves.time)
