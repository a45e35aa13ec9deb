-- What happens to the store's rows and pages, as far as blocks go. This project's own.
use Rattle.std.specs.Prelude.{◌≡◌, ℕ, Option}
use Rattle.opfs_base.specs.Places.{Place}
use Rattle.opfs_records.specs.Replay.Built.{named, has_block}
use Rattle.opfs_space.specs.Files.{file_has}
use Rattle.opfs_space.specs.Holders.{HasPage}
use Rattle.opfs_space.specs.Room.{Machine}
use Rattle.opfs_tree.specs.Rows.{Rows as Tree}
use Rattle.opfs_pages.specs.HistoryLaws.Open.{open_at, StaysOpen, OthersStayOpen}
use Rattle.opfs_pages.specs.HistoryLaws.Spaced.{Shelf}

-- Two trees name the same blocks, each file its own.
pub record HasSameBlocks (old new : Tree) : Type 0 where
  pub named : (b : ℕ) → has_block (named new) b ≡ has_block (named old) b
  pub has : (f : Option Place) (b : ℕ) → file_has new f b ≡ file_has old f b

-- The rows and what is recorded have the same blocks.
pub record HasSameFiles (old new : Shelf) : Type 0 where
  pub recorded : HasSameBlocks old.recorded new.recorded
  pub tree : HasSameBlocks old.tree new.tree

-- Open rows stay open with at least as many blocks kept, and the limits stay.
pub record KeepsOpen (old new : Machine) (agent row : ℕ) : Type 0 where
  pub others : OthersStayOpen old new agent row
  pub here : StaysOpen (open_at old agent row) (open_at new agent row)
  pub limits : new.limits ≡ old.limits

-- No page comes.
abbrev pub HasNoMorePages : Shelf → Shelf → Type 0
HasNoMorePages old new = (k n i b : ℕ) → HasPage new.swap k n i b → HasPage old.swap k n i b
