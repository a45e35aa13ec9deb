-- The blocks of the files at places. This project's own.
use Rattle.std.specs.Prelude.{◌≡◌, ℕ, ◌⊎◌, Bool, true, Option, Some, None, List, []}
use Rattle.opfs_base.specs.Places.{Place}
use Rattle.opfs_base.specs.declared.extents.Extent.{Extent}
use Rattle.opfs_blocks.specs.Sets.{blocks_of}
use Rattle.opfs_records.specs.Replay.Built.{has_block}
use Rattle.opfs_tree.specs.Rows.{Rows, row_at, extents_of}
use Rattle.opfs_tree.specs.declared.row.Row.{Row}

-- the extents of a row's file; none where there is no row
abbrev pub extents_in : Option Row → List Extent
extents_in None = []
extents_in (Some r) = extents_of r

-- the blocks of the file at a place; none where no place is told, or no file is there
abbrev pub blocks_at : Option Place → Rows → List ℕ
blocks_at None rows = []
blocks_at (Some place) rows = blocks_of (extents_in (row_at place rows))

-- whether the file at a place has a block
abbrev pub file_has : Rows → Option Place → ℕ → Bool
file_has rows place b = has_block (blocks_at place rows) b

-- The files of two trees differ at one place alone, where the new one's blocks are these, and no others.
pub record IsChangedAt (place : Place) (blocks : List ℕ) (old new : Rows) : Type 0 where
  pub came : (f : Option Place) (b : ℕ) → file_has new f b ≡ true → ((f ≡ Some place) × (has_block blocks b ≡ true)) ⊎ (file_has old f b ≡ true)
  pub here : (b : ℕ) → has_block blocks b ≡ true → file_has new (Some place) b ≡ true
  pub only : (b : ℕ) → file_has new (Some place) b ≡ true → has_block blocks b ≡ true
  pub stays : (f : Option Place) (b : ℕ) → file_has old f b ≡ true → (f ≡ Some place) ⊎ (file_has new f b ≡ true)
