-- An image as it is formatted. This project's own.
use Rattle.std.specs.Prelude.{◌≡◌, ℕ, ◌+◌, true, false, List, ◌++◌, codes, slice_index}
use Rattle.std.specs.Int.{w32, to_le_bytes}
use Rattle.opfs_journal.specs.Format.{is_open, number_at}
use Rattle.opfs_journal.specs.declared.areas.Areas.{Areas}
use Rattle.opfs_image.specs.declared.geometry.Geometry.{Geometry}

-- the first bytes of a superblock of version 2
abbrev pub head_bytes : Geometry → List ℕ
head_bytes g = codes "OPFSIMG1" ++ to_le_bytes w32 2 ++ to_le_bytes w32 g.areas ++ to_le_bytes w32 g.blocks ++ to_le_bytes w32 g.quota

-- area 0 has a first record of generation 0 in format 2 without changes, and no other; area 1 is closed
pub record IsEmptyJournal (a : Areas) (c : List ℕ) : Type 0 where
  pub opened : is_open c a.first ≡ true
  pub size : number_at c (a.first + 1) ≡ 1
  pub generation : slice_index c (a.first + 5) ≡ 16
  pub shut : is_open c (a.first + 6) ≡ false
  pub other : is_open c (a.first + a.bytes) ≡ false
