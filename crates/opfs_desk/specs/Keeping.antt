-- What is kept since a moment, and stays so. This project's own.
use Rattle.std.specs.Prelude.{ℕ, ◌≤◌, List, length, take}
use Rattle.opfs_books.specs.Laws.Fronts.{IsShownOnce}
use Rattle.opfs_hist.specs.declared.entry.Entry.{Entry}
use Rattle.opfs_machine.specs.Changes.{changes, floor}
use Rattle.opfs_machine.specs.Openings.{Opening}
use Rattle.opfs_outside.specs.declared.disk.Disk.{Ghosts as DiskWords}
use Rattle.opfs_desk.specs.Seen.{DeskSeen, disk_of, entries_of}

-- Since a moment each image that a stop may leave has what so many first entries of a history stored up to the last content of them.
pub record IsKept {D : Type 0} (w : DiskWords D) (o : Opening) (h : List Entry) (now : D) (count moment : ℕ) : Type 0 where
  pub within : count ≤ length h
  pub passed : moment ≤ w.moment now
  pub since : (c : List ℕ) → w.since now moment c → IsShownOnce o (floor (changes o (take count h))) h c

-- The same of a desk.
abbrev pub Keeps : {D : Type 0} → DiskWords D → DeskSeen D → ℕ → ℕ → Type 0
Keeps w d count moment = IsKept w d.fixed.opening (entries_of d) (disk_of d) count moment

-- What one desk keeps the other one keeps.
abbrev pub StaysKept : {D : Type 0} → DiskWords D → DeskSeen D → DeskSeen D → Type 0
StaysKept w a b = w.tells → (count moment : ℕ) → Keeps w a count moment → Keeps w b count moment

-- All that was entered is kept from this moment on.
abbrev pub KeepsAll : {D : Type 0} → DiskWords D → DeskSeen D → Type 0
KeepsAll w d = w.tells → Keeps w d (length (entries_of d)) (w.moment (disk_of d))

-- What a desk keeps the disk keeps that its end gives.
abbrev pub EndsKeeping : {D : Type 0} → DiskWords D → DeskSeen D → D → Type 0
EndsKeeping w d disk = w.tells → (count moment : ℕ) → Keeps w d count moment → IsKept w d.fixed.opening (entries_of d) disk count moment
