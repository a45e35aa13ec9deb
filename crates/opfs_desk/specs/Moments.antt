-- What a stop leaves at each moment of a run. This project's own.
use Rattle.std.specs.Prelude.{ℕ, ◌+◌, ◌≤◌, List, take}
use Rattle.opfs_books.specs.Laws.Fronts.{IsShownOnce}
use Rattle.opfs_commit.specs.Trail.{IsContentAt}
use Rattle.opfs_hist.specs.declared.entry.Entry.{Entry}
use Rattle.opfs_image.specs.Filling.{Stands}
use Rattle.opfs_machine.specs.Changes.{changes, durable}
use Rattle.opfs_machine.specs.Openings.{Opening}
use Rattle.opfs_outside.specs.declared.disk.Disk.{Ghosts as DiskWords}

-- The content at a place of what a history stores has been kept since a moment: an image since then stands for what was stored up to
-- and with it, and each image since then has it. So many moments have passed, and images are those that a stop may leave at some
-- moment from one on.
pub record IsKeptSince (last : ℕ) (left : ℕ → List ℕ → Type 0) (o : Opening) (h : List Entry) (n : ℕ) : Type 0 where
  pub moment : ℕ
  pub passed : moment ≤ last
  pub image : (c : List ℕ) × left moment c × Stands c (durable o (take (n + 1) (changes o h)))
  pub since : (c : List ℕ) → left moment c → IsShownOnce o (n + 1) h c

-- Each image since the run began shows a front of what the history stores, with what one call of it left in doubt.
abbrev pub ShowsFronts : {D : Type 0} → DiskWords D → Opening → List Entry → D → D → Type 0
ShowsFronts w o h begun now = (c : List ℕ) → w.since now (w.moment begun) c → IsShownOnce o 0 h c

-- Each content of the history has been kept since a moment.
abbrev pub KeepsContents : {D : Type 0} → DiskWords D → Opening → List Entry → D → Type 0
KeepsContents w o h now = w.crashes → (n : ℕ) → IsContentAt (changes o h) n → IsKeptSince (w.moment now) (w.since now) o h n
