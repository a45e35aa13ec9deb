-- What a desk keeps between calls. This project's own.
use Rattle.opfs_books.specs.Laws.Books.{Fixed}
use Rattle.opfs_pages.specs.HistoryLaws.Handles.{AreHandlesWhole}
use Rattle.opfs_desk_steps.specs.Parts.Held.{AreHeld}
use Rattle.opfs_desk_steps.specs.declared.parts.parts.DeskParts.{DeskParts}
use Rattle.opfs_desk_steps.specs.Iterating.Known.{AreReached, Lasts}
use Rattle.opfs_desk.specs.Moments.{KeepsContents, ShowsFronts}
use Rattle.opfs_machine.specs.Histories.{state_after}
use Rattle.opfs_outside.specs.Moments.{Elapses}
use Rattle.opfs_outside.specs.declared.disk.Disk.{Ghosts as DiskWords}

-- All parts are kept; each page of each open access handle is one that the store tells. Of the images since the run began, and before,
-- none is lost; each since then shows a front of what is stored; and each content is kept since a moment.
pub record IsAtRest {D : Type 0} (w : DiskWords D) (f : Fixed D) (p : DeskParts D) : Type 0 where
  pub held : AreHeld w f p
  pub whole : AreHandlesWhole f.opening p.ledger.books.history
  pub time : w.tells → Elapses w.moment w.since f.begun p.ledger.journal.disk
  pub fronts : w.tells → ShowsFronts w f.opening p.ledger.books.history f.begun p.ledger.journal.disk
  pub keeps : w.tells → KeepsContents w f.opening p.ledger.books.history p.ledger.journal.disk

-- And what is known of iterators is so.
pub record IsResting {D : Type 0} (w : DiskWords D) (f : Fixed D) (p : DeskParts D) (lasts : Lasts) : Type 0 where
  pub rest : IsAtRest w f p
  pub reached : AreReached (state_after f.opening p.ledger.books.history) lasts
