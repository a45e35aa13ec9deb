-- What the changes of a journal build: the rows of the store, with the blocks of their files, and the persistent units.
-- This project's own.
use Rattle.std.specs.Prelude.{◌≡◌, ℕ, ◌+◌, ◌<◌, ◌≤◌, Bool, true, false, not, ◌&&◌, List, [], ◌∷◌, filter, sum_by, replicate, IsTrue, nat_eq}
use Rattle.std.specs.List.{list_any, flat_map, AllByRecursion}
use Rattle.std.specs.Ordering.{is_eq}
use Rattle.opfs_base.specs.Blocks.{blocks}
use Rattle.opfs_base.specs.Texts.{Text}
use Rattle.opfs_base.specs.Places.{Place, place_cmp}
use Rattle.opfs_base.specs.declared.extents.Extent.{Extent}
use Rattle.opfs_blocks.specs.Sets.{blocks_of, marked}
use Rattle.opfs_locks.specs.Taking.{open_lock}
use Rattle.opfs_tree.specs.Rows.{Rows, extents_of}
use Rattle.opfs_tree.specs.declared.row.FileRow.{FileRow}
use Rattle.opfs_tree.specs.declared.row.Row.{Row}
use Rattle.opfs_tree.specs.declared.row.Row.TheVariants as row

-- The rows in the order of their places, and the persistent units in the order of their texts.
pub record Built : Type 0 where
  pub rows : Rows
  pub persistent : List Text

abbrev pub nothing_built : Built
nothing_built = record { rows = []; persistent = [] }

-- The extents and the blocks that the rows' files name, file after file.
abbrev pub all_extents : Rows → List Extent
all_extents rows = flat_map (λ e. extents_of e.1) rows

abbrev pub named : Rows → List ℕ
named rows = blocks_of (all_extents rows)

-- The blocks that other rows name than the one at a place.
abbrev pub named_beside : Place → Rows → List ℕ
named_beside place rows = named (filter (λ e. not (is_eq (place_cmp place e.0))) rows)

-- How many blocks extents have.
abbrev pub block_count : List Extent → ℕ
block_count extents = sum_by (λ e. e.count) extents

-- Whether a block is in a list, and whether no block of the list is in it twice.
abbrev pub has_block : List ℕ → ℕ → Bool
has_block list block = list_any (nat_eq block) list

abbrev pub is_once : List ℕ → Bool
is_once [] = true
is_once (block ∷ more) = not (has_block more block) && is_once more

-- A file has the blocks that its length takes, all below the size, in extents that have a block each; a
-- read gives what is stored, and its lock is open.
pub record IsSoundFile (size : ℕ) (f : FileRow) : Type 0 where
  pub some : AllByRecursion (λ e. 0 < e.count) f.extents
  pub whole : block_count f.extents ≡ blocks f.length
  pub below : AllByRecursion (λ e. e.start + e.count ≤ size) f.extents
  pub present : f.present ≡ f.length
  pub present_stamp : f.present_stamp ≡ f.stamp
  pub unlocked : f.lock ≡ open_lock

abbrev pub IsSoundRow : ℕ → Row → Type 0
IsSoundRow size row.Dir = Unit {0}
IsSoundRow size (row.File f) = IsSoundFile size f

-- The files of the rows have their blocks below the size, and no block is named twice.
pub record IsSound (size : ℕ) (rows : Rows) : Type 0 where
  pub files : AllByRecursion (λ e. IsSoundRow size e.1) rows
  pub once : IsTrue (is_once (named rows))

-- The used blocks are those that the rows name.
abbrev pub used_by : ℕ → Rows → List Bool
used_by size rows = marked true (named rows) (replicate size false)
