-- What the end of a run leaves. This project's own.
use Rattle.std.specs.Prelude.{◌≡◌, ℕ, List, ◌++◌, Option, Ok}
use Rattle.opfs_books.specs.Laws.Fronts.{IsRecent}
use Rattle.opfs_books.specs.Laws.Laws.{told, doubt}
use Rattle.opfs_commit.specs.Shown.{ShowsSince}
use Rattle.opfs_hist.specs.declared.entry.Entry.{Entry}
use Rattle.opfs_laws.specs.Histories.Doubts.{doubted}
use Rattle.opfs_image.specs.Filling.{Stands}
use Rattle.opfs_image.specs.Superblock.{geometry_of}
use Rattle.opfs_machine.specs.Changes.{floor, changes, durable}
use Rattle.opfs_machine.specs.Openings.{Opening}
use Rattle.opfs_outside.specs.Moments.{Elapses}
use Rattle.opfs_outside.specs.declared.disk.Disk.{Ghosts as DiskWords}
use Rattle.opfs_desk_steps.specs.Parts.Seen.{book_in}
use Rattle.opfs_desk.specs.Moments.{KeepsContents, ShowsFronts}
use Rattle.opfs_desk.specs.Seen.{DeskSeen, entries_of, disk_of}

-- The image stands for what the whole history stored.
abbrev pub StandsWhole : {D : Type 0} → DiskWords D → DeskSeen D → D → Type 0
StandsWhole w d disk = w.tells → Stands (w.content disk) (durable d.fixed.opening (changes d.fixed.opening (entries_of d)))

-- Each image that a crash may leave at the end stands for what the whole history stored.
abbrev pub EndsWhole : {D : Type 0} → DiskWords D → DeskSeen D → D → Type 0
EndsWhole w d disk = w.tells → (c : List ℕ) → w.since disk (w.moment disk) c → Stands c (durable d.fixed.opening (changes d.fixed.opening (entries_of d)))

-- At each moment since the end began an image shows a front of what was told, with what was in doubt; it has all that was told up
-- to the last content.
abbrev pub ShowsEnding : {D : Type 0} → DiskWords D → DeskSeen D → D → Type 0
ShowsEnding w d disk = w.tells → ShowsSince w d.fixed.opening (floor (told d.fixed (book_in d.parts.ledger))) (told d.fixed (book_in d.parts.ledger) ++ doubt d.fixed (book_in d.parts.ledger) d.parts.ledger.journal) (disk_of d) disk

-- Each image since the run began shows a front of what the history stored, with what one call of it left in doubt at most.
abbrev pub EndsFronts : {D : Type 0} → DiskWords D → DeskSeen D → D → Type 0
EndsFronts w d disk = w.tells → ShowsFronts w d.fixed.opening (entries_of d) d.fixed.begun disk

-- Each content of the history has been kept since a moment.
abbrev pub EndsKept : {D : Type 0} → DiskWords D → DeskSeen D → D → Type 0
EndsKept w d disk = w.tells → KeepsContents w d.fixed.opening (entries_of d) disk

-- Each image that a crash may leave at the end shows a front of what the history stored, with what one entry of it, behind which
-- nothing was stored, may leave in doubt; it has all that was stored up to the last content.
pub record LeavesFront {D : Type 0} (w : DiskWords D) (o : Opening) (h : List Entry) (disk : D) : Type 0 where
  pub place : Option ℕ
  pub recent : IsRecent o h place
  pub shown : ShowsSince w o (floor (changes o h)) (changes o h ++ doubted o h place) disk disk

-- The image has its sizes still.
abbrev pub KeepsSizes : {D : Type 0} → DiskWords D → DeskSeen D → D → Type 0
KeepsSizes w d disk = w.tells → geometry_of (w.content disk) ≡ Ok d.fixed.geometry

-- An image since the run began, or before, is one of then, or one of since then, and none is lost.
abbrev pub EndsTime : {D : Type 0} → DiskWords D → DeskSeen D → D → Type 0
EndsTime w d disk = w.tells → Elapses w.moment w.since d.fixed.begun disk
