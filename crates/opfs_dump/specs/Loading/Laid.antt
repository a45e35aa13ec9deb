-- Rows with their blocks, one file's behind another's, and what a disk then stands for. This project's own.
use Rattle.std.specs.Prelude.{◌≡◌, ℕ, zero, suc, ◌+◌, ◌<◌, ◌≤◌, false, List, [], ◌∷◌, length, map, Some, Ok}
use Rattle.opfs_base.specs.Blocks.{blocks}
use Rattle.opfs_base.specs.Places.{Place}
use Rattle.opfs_base.specs.declared.extents.Extent.{Extent}
use Rattle.opfs_codec.specs.declared.change.Format.TheVariants.{New}
use Rattle.opfs_image.specs.Filling.{filled, filled_row}
use Rattle.opfs_image.specs.Reading.{read_as}
use Rattle.opfs_image.specs.Superblock.{areas_of, data_base, image_size}
use Rattle.opfs_image.specs.declared.geometry.Geometry.{Geometry}
use Rattle.opfs_journal.specs.Clauses.{Outside}
use Rattle.opfs_journal.specs.Format.{records_of}
use Rattle.opfs_journal.specs.Seen.{Seen, Stays, kept}
use Rattle.opfs_journal.specs.declared.areas.Areas.{Areas}
use Rattle.opfs_locks.specs.Taking.{open_lock}
use Rattle.opfs_machine.specs.Openings.{Map, Stored, folder, document}
use Rattle.opfs_outside.specs.Bytes.{Same}
use Rattle.opfs_outside.specs.declared.disk.Disk.{Ghosts as DiskWords}
use Rattle.opfs_records.specs.Replay.Built.{Built, nothing_built}
use Rattle.opfs_tree.specs.Rows.{Rows}
use Rattle.opfs_tree.specs.declared.row.Row.{Row}
use Rattle.opfs_tree.specs.declared.row.Row.TheVariants as row
use Rattle.opfs_dump.specs.Text.Limits.{stored_blocks}

-- So many blocks from one on.
abbrev pub laid_run : ℕ → ℕ → List Extent
laid_run at zero = []
laid_run at (suc n) = record { start = at; count = suc n } ∷ []

abbrev pub laid_row : ℕ → Stored → Row
laid_row at folder = row.Dir
laid_row at (document bytes stamp) =
    row.File (record { length = length bytes; stamp = stamp; present = length bytes; present_stamp = stamp; extents = laid_run at (blocks (length bytes)); lock = open_lock })

-- Rows whose files have the blocks from one on.
unfoldable pub laid : ℕ → List (Place × Stored) → Rows
laid at [] = []
laid at (e ∷ es) = (e.0, laid_row at e.1) ∷ laid (at + stored_blocks e.1) es

abbrev pub laid_map : Map → Built
laid_map m = record { rows = laid 0 m.rows; persistent = m.persistent }

-- Rows with the bytes that a disk has in their blocks.
abbrev pub filled_rows : ℕ → List ℕ → Rows → List (Place × Stored)
filled_rows base c rows = map (λ e. (e.0, filled_row base c e.1)) rows

-- An image of these sizes that stands for a map.
pub record StandsAs (g : Geometry) (m : Map) (c : List ℕ) : Type 0 where
  pub built : Built
  pub reads : read_as New New c ≡ Ok (record { geometry = g; built = built })
  pub stands : filled (data_base g) c built ≡ m

-- A journal whose disk is written behind a place alone.
pub record StoresBehind {D : Type 0} (w : DiskWords D) (base : ℕ) (old new : Seen D) : Type 0 where
  pub stays : Stays w.size old new
  pub format : new.format ≡ old.format
  pub sure : new.in_doubt ≡ false
  pub records : w.tells → new.records ≡ old.records
  pub before : w.tells → Same (λ i. i < base) (w.content new.disk) (w.content old.disk)
  pub later : w.faults old.disk ≤ w.faults new.disk

-- The rows' bytes are written; before the base nothing is but in the areas.
pub record IsWritten (base : ℕ) (old new : List ℕ) (areas : Areas) (rows : List (Place × Stored)) : Type 0 where
  pub stored : filled_rows base new (laid 0 rows) ≡ rows
  pub before : Same (λ i. (i < base) × Outside areas i) new old

-- A journal over an image of these sizes that holds nothing.
pub record IsEmptyOver {D : Type 0} (w : DiskWords D) (g : Geometry) (journal : Seen D) : Type 0 where
  pub areas : journal.areas ≡ areas_of g
  pub length : image_size g ≤ w.size journal.disk
  pub settled : journal.in_doubt ≡ false
  pub reads : w.tells → read_as New New (w.content journal.disk) ≡ Ok (record { geometry = g; built = nothing_built })
  pub records : w.tells → records_of (areas_of g) (w.content journal.disk) ≡ Some (kept journal)
