-- Who has which data blocks, of the shared store: its rows, its open rows, and what the records build. This project's own.
use Rattle.std.specs.Prelude.{◌≡◌, ℕ, length, Option}
use Rattle.opfs_base.specs.Places.{Place}
use Rattle.opfs_data.specs.Rows.{Rows}
use Rattle.opfs_records.specs.Replay.Built.{named, has_block}
use Rattle.opfs_space.specs.Files.{file_has}
use Rattle.opfs_space.specs.Holders.{Holders, AreBlocks}
use Rattle.opfs_space.specs.Room.{Machine}
use Rattle.opfs_space.specs.Spaces.{SpaceSeen}
use Rattle.opfs_tree.specs.Rows.{Rows as Tree}
use Rattle.opfs_pages.specs.HistoryLaws.Open.{open_at, file_in, reserve_in, is_stream}

-- The store's rows, the rows that the records build, and the pages.
pub record Shelf : Type 0 where
  pub recorded : Tree
  pub tree : Tree
  pub swap : Rows

-- These have the blocks, by the machine and the shelf: of each open row its file and its kept blocks, what the records name,
-- what the rows name and each file, and the pages.
pub record AreHolders (m : Machine) (s : Shelf) (h : Holders) : Type 0 where
  pub reserve : (k n : ℕ) → h.reserve k n ≡ reserve_in (open_at m k n)
  pub file : (k n : ℕ) → h.file k n ≡ file_in (open_at m k n)
  pub streams : (k n : ℕ) → h.streams k n ≡ is_stream (open_at m k n)
  pub recorded : (b : ℕ) → h.ground b ≡ has_block (named s.recorded) b
  pub rows : (b : ℕ) → h.rows b ≡ has_block (named s.tree) b
  pub has : (f : Option Place) (b : ℕ) → h.has f b ≡ file_has s.tree f b
  pub swap : h.swap ≡ s.swap

-- The space has as many blocks as the limits say, and is right for who has them.
pub record AreSpaced (m : Machine) (s : Shelf) (space : SpaceSeen) : Type 0 where
  pub size : length space.used ≡ m.limits.blocks
  pub own_size : length space.own ≡ length space.used
  pub blocks : (h : Holders) → AreHolders m s h → AreBlocks h space.used space.own
