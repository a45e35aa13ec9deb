-- A content that a close or a flush stores, and what goes, as far as blocks go. This project's own.
use Rattle.std.specs.Prelude.{◌≡◌, ℕ, true, false, List, Option, Some}
use Rattle.opfs_base.specs.Places.{Place}
use Rattle.opfs_base.specs.declared.extents.Extent.{Extent}
use Rattle.opfs_blocks.specs.Sets.{blocks_of}
use Rattle.opfs_data.specs.Rows.{IsOther}
use Rattle.opfs_records.specs.Replay.Built.{named, has_block}
use Rattle.opfs_space.specs.Files.{file_has, IsChangedAt}
use Rattle.opfs_space.specs.Holders.{HasPage}
use Rattle.opfs_space.specs.Room.{Machine}
use Rattle.opfs_tree.specs.Rows.{IsInOrder}
use Rattle.opfs_pages.specs.HistoryLaws.Open.{open_at, file_in, is_stream, OthersStayOpen}
use Rattle.opfs_pages.specs.HistoryLaws.Spaced.{Shelf}

-- A content of a row's file is stored: its blocks are those of pages of the row, which ends, or is an access handle whose pages
-- have these blocks. Nothing is kept back, before and after, and other rows that are open on the file are streams.
pub record IsContentOf (m t : Machine) (s r : Shelf) (agent row : ℕ) (place : Place) (extents : List Extent) : Type 0 where
  pub file : file_in (open_at m agent row) ≡ Some place
  pub others : OthersStayOpen m t agent row
  pub limits : t.limits ≡ m.limits
  pub order : IsInOrder s.tree
  pub order_now : IsInOrder r.tree
  pub nothing_kept : (b : ℕ) → has_block (named s.recorded) b ≡ true → has_block (named s.tree) b ≡ true
  pub recorded : (b : ℕ) → has_block (named r.recorded) b ≡ has_block (named r.tree) b
  pub changed : IsChangedAt place (blocks_of extents) s.tree r.tree
  pub of_row : (b : ℕ) → has_block (blocks_of extents) b ≡ true → (i : ℕ) × HasPage s.swap agent row i b
  pub pages : (k n i b : ℕ) → IsOther agent row k n → HasPage r.swap k n i b → HasPage s.swap k n i b
  pub left : (i b : ℕ) → HasPage r.swap agent row i b
      → HasPage s.swap agent row i b × (file_in (open_at t agent row) ≡ file_in (open_at m agent row)) × (has_block (blocks_of extents) b ≡ true) × (is_stream (open_at t agent row) ≡ false)
  pub streams : (k n : ℕ) → file_in (open_at m k n) ≡ Some place → IsOther agent row k n → is_stream (open_at m k n) ≡ true

-- Fewer files: the rows and what is recorded name fewer blocks, what the file of an open row had stays, and no page comes.
pub record HasFewerFiles (m t : Machine) (s r : Shelf) : Type 0 where
  pub open_rows : (k n : ℕ) → open_at t k n ≡ open_at m k n
  pub limits : t.limits ≡ m.limits
  pub recorded : (b : ℕ) → has_block (named r.recorded) b ≡ true → has_block (named s.recorded) b ≡ true
  pub rows : (b : ℕ) → has_block (named r.tree) b ≡ true → has_block (named s.tree) b ≡ true
  pub inside : (b : ℕ) → has_block (named r.tree) b ≡ true → has_block (named r.recorded) b ≡ true
  pub has : (f : Option Place) (b : ℕ) → file_has r.tree f b ≡ true → file_has s.tree f b ≡ true
  pub stays : (k n b : ℕ) → file_has s.tree (file_in (open_at m k n)) b ≡ true → file_has r.tree (file_in (open_at m k n)) b ≡ true
  pub pages : (k n i b : ℕ) → HasPage r.swap k n i b → HasPage s.swap k n i b
