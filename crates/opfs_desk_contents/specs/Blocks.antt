-- Blocks where a row's content was stored. This project's own.
use Rattle.std.specs.Prelude.{◌≡◌, ◌⊎◌, ℕ, Bool, List, true, false, Some, None}
use Rattle.opfs_base.specs.Places.{Place}
use Rattle.opfs_base.specs.declared.extents.Extent.{Extent}
use Rattle.opfs_blocks.specs.Sets.{blocks_of}
use Rattle.opfs_data.specs.Rows.{Rows, row_of, IsOther, OthersStay}
use Rattle.opfs_pages.specs.HistoryLaws.Open.{open_at, file_in, is_stream, OthersStayOpen}
use Rattle.opfs_pages.specs.HistoryLaws.Spaced.{AreSpaced}
use Rattle.opfs_pages.specs.RowCalls.Plans.{shelf}
use Rattle.opfs_pages.specs.RowCalls.Rows.{ArePlain}
use Rattle.opfs_records.specs.Checkpoint.Written.{stored_rows}
use Rattle.opfs_records.specs.Replay.Built.{has_block}
use Rattle.opfs_space.specs.Files.{IsChangedAt, file_has}
use Rattle.opfs_space.specs.Room.{Machine}
use Rattle.opfs_space.specs.Spaces.{SpaceSeen}
use Rattle.opfs_tree.specs.Rows.{Rows as Tree, IsInOrder}
use Rattle.opfs_desk_contents.specs.Commits.Steps.{space_left}
use Rattle.opfs_desk_contents.specs.Storing.{AreRunsOf}

-- The row went with its pages, or is an access handle's and has the pages that it had.
pub record StaysWithFile (t : Machine) (p q : Rows) (agent row : ℕ) (place : Place) : Type 0 where
  pub same : row_of agent row q ≡ row_of agent row p
  pub file : file_in (open_at t agent row) ≡ Some place
  pub handle : is_stream (open_at t agent row) ≡ false

-- A row's file has the blocks of its pages now, over rows that are stored all. Other rows stay, and those that are open on the file
-- are streams.
pub record IsContentIn (m t : Machine) (recorded u v : Tree) (p q : Rows) (space : SpaceSeen) (agent row pages : ℕ) (place : Place) (runs : List Extent) : Type 0 where
  pub spaced : AreSpaced m (shelf recorded u p) space
  pub file : file_in (open_at m agent row) ≡ Some place
  pub others : OthersStayOpen m t agent row
  pub limits : t.limits ≡ m.limits
  pub order : IsInOrder u
  pub order_now : IsInOrder v
  pub changed : IsChangedAt place (blocks_of runs) u v
  pub runs_are : AreRunsOf p agent row pages runs
  pub plain : ArePlain p agent row pages
  pub stay : OthersStay agent row p q
  pub left : (row_of agent row q ≡ None) ⊎ StaysWithFile t p q agent row place
  pub streams : (k n : ℕ) → file_in (open_at m k n) ≡ Some place → IsOther agent row k n → is_stream (open_at m k n) ≡ true

-- The blocks that are gone were those of a file, on which no other row was open, where that is told.
pub record AreGone (m : Machine) (u : Tree) (agent row : ℕ) (place : Place) (alone : Bool) (gone : List Extent) : Type 0 where
  pub of_file : (b : ℕ) → has_block (blocks_of gone) b ≡ true → file_has u (Some place) b ≡ true
  pub nobody : alone ≡ true → (k n : ℕ) → file_in (open_at m k n) ≡ Some place → IsOther agent row k n → ⊥

-- Then the blocks are right: those of the content are no page's alone, and those that are gone are free.
abbrev pub ContentsKeepBlocks : Type 0
ContentsKeepBlocks =
    (m t : Machine) (recorded u v : Tree) (p q : Rows) (space : SpaceSeen) (agent row pages : ℕ) (place : Place) (runs : List Extent) → IsContentIn m t recorded u v p q space agent row pages place runs
    → (alone : Bool) (gone : List Extent) → AreGone m u agent row place alone gone → AreSpaced t (shelf (stored_rows v) v q) (space_left alone gone runs space)
