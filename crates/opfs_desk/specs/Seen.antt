-- The desk as it is seen. This project's own.
use Rattle.std.specs.Prelude.{ℕ, List, ◌++◌}
use Rattle.opfs_books.specs.Laws.Books.{Fixed, AreCounted}
use Rattle.opfs_books.specs.Laws.Fronts.{IsShownOnce}
use Rattle.opfs_books.specs.Laws.Laws.{told, doubt}
use Rattle.opfs_commit.specs.Shown.{ShowsSince}
use Rattle.opfs_hist.specs.declared.entry.Entry.{Entry}
use Rattle.opfs_machine.specs.Changes.{changes, floor}
use Rattle.opfs_outside.specs.declared.disk.Disk.{Ghosts as DiskWords}
use Rattle.opfs_desk_steps.specs.Parts.Seen.{book_in}
use Rattle.opfs_desk_steps.specs.declared.parts.parts.DeskParts.{DeskParts}

-- With what the run began, and the parts.
pub record DeskSeen (D : Type 0) : Type 0 where
  pub fixed : Fixed D
  pub parts : DeskParts D

abbrev pub entries_of : {D : Type 0} → DeskSeen D → List Entry
entries_of d = d.parts.ledger.books.history

abbrev pub disk_of : {D : Type 0} → DeskSeen D → D
disk_of d = d.parts.ledger.journal.disk

-- Each image that a crash may leave now shows a front of what was told, with what is in doubt; it has all that was told up to the
-- last content.
abbrev pub ShowsNow : {D : Type 0} → DiskWords D → DeskSeen D → Type 0
ShowsNow w d = w.tells → ShowsSince w d.fixed.opening (floor (told d.fixed (book_in d.parts.ledger))) (told d.fixed (book_in d.parts.ledger) ++ doubt d.fixed (book_in d.parts.ledger) d.parts.ledger.journal) (disk_of d) (disk_of d)

-- Each image that a crash may leave now has all that these first entries of the history stored up to the last content of them.
abbrev pub HasAcknowledged : {D : Type 0} → DiskWords D → DeskSeen D → List Entry → Type 0
HasAcknowledged w d front = (c : List ℕ) → w.since (disk_of d) (w.moment (disk_of d)) c → IsShownOnce d.fixed.opening (floor (changes d.fixed.opening front)) (entries_of d) c

-- Each entry that tells of a disk fault has its own rise of the disk's count since the run began.
abbrev pub CountsFaults : {D : Type 0} → DiskWords D → DeskSeen D → Type 0
CountsFaults w d = AreCounted (w.faults d.fixed.begun) (w.faults (disk_of d)) (entries_of d) d.parts.ledger.journal.in_doubt
