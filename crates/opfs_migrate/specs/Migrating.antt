-- What a migration keeps, and why it is refused. This project's own.
use Rattle.std.specs.Prelude.{◌≡◌, ◌≤◌, ℕ, ◌⊎◌, Bool, true, false, List, [], ◌∷◌, count_by, is_some, Some, Ok}
use Rattle.opfs_codec.specs.declared.change.Format.TheVariants.{Old, New}
use Rattle.opfs_journal.specs.Calls.{IsOneOf}
use Rattle.opfs_journal.specs.Format.{Stored as Records}
use Rattle.opfs_journal.specs.Seen.{Seen, Stays}
use Rattle.opfs_machine.specs.Openings.{Map, Stored, folder, document}
use Rattle.opfs_outside.specs.Moments.{Elapses}
use Rattle.opfs_outside.specs.declared.disk.Disk.{Ghosts as DiskWords}
use Rattle.opfs_records.specs.Replay.Applying.{rows_of}
use Rattle.opfs_records.specs.Replay.Built.{Built}
use Rattle.opfs_tree.specs.Rows.{file_in}
use Rattle.opfs_image.specs.Filling.{Stands, StandsOld}
use Rattle.opfs_image.specs.Reading.{read_as}
use Rattle.opfs_image.specs.declared.geometry.Geometry.{Geometry}

-- the files of a map
abbrev pub is_document : Stored → Bool
is_document folder = false
is_document (document bytes stamp) = true

abbrev pub file_count : Map → ℕ
file_count m = count_by (λ e. is_document e.1) m.rows

-- The image before stands for a map in format 1, and the one after for the same in format 2; it has so many files.
pub record AreMigrated (files : ℕ) (before after : List ℕ) : Type 0 where
  pub map : Map
  pub was : StandsOld before map
  pub is : Stands after map
  pub counted : files ≡ file_count map

-- the image stands for the map, in one format or the other
abbrev pub StandsEither : Map → List ℕ → Type 0
StandsEither m c = StandsOld c m ⊎ Stands c m

-- the image is read as one of format 1 with this geometry and so many files, and this one record builds the same
pub record IsPlanned (g : Geometry) (files : ℕ) (body : List ℕ) (c : List ℕ) : Type 0 where
  pub built : Built
  pub reads : read_as Old New c ≡ Ok (record { geometry = g; built = built })
  pub counted : files ≡ count_by (λ e. is_some (file_in e.1)) built.rows
  pub builds : rows_of New g.blocks (body ∷ []) ≡ Some built

-- time went on, and if the image stood for a map, each image that a crash left since stands for it, or was left before
pub record KeptSince {D : Type 0} (w : DiskWords D) (old new : D) : Type 0 where
  pub time : Elapses w.moment w.since old new
  pub images : (m : Map) → StandsOld (w.content old) m → (c : List ℕ) → w.since new (w.moment old) c → w.since old (w.moment old) c ⊎ StandsEither m c

pub record Moved {D : Type 0} (w : DiskWords D) (old new : D) : Type 0 where
  pub length : w.size new ≡ w.size old
  pub later : w.faults old ≤ w.faults new
  pub told : w.tells → KeptSince w old new

-- Whatever a call that writes these records answered: what no call changes, and each image since the start.
pub record IsTried {D : Type 0} (w : DiskWords D) (next : Records) (old new : Seen D) : Type 0 where
  pub stays : Stays w.size old new
  pub later : w.faults old.disk ≤ w.faults new.disk
  pub told : w.tells → IsOneOf w next old new
