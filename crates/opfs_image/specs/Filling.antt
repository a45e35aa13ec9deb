-- What an image stands for: the rows that its records build, with the bytes that it has in their blocks. This project's
-- own.
use Rattle.std.specs.Prelude.{◌≡◌, ℕ, ◌+◌, ◌<◌, ◌≤◌, ◌⊎◌, List, [], ◌∷◌, map, Option, Some, None, Result, Ok, Err}
use Rattle.opfs_codec.specs.declared.change.Format.{Format}
use Rattle.opfs_codec.specs.declared.change.Format.TheVariants.{Old, New}
use Rattle.opfs_base.specs.declared.extents.Extent.{Extent}
use Rattle.opfs_data.specs.Places.{bytes_of, run_place, run_room}
use Rattle.opfs_machine.specs.Openings.{Map, Stored, folder, document}
use Rattle.opfs_tree.specs.declared.row.Row.{Row}
use Rattle.opfs_tree.specs.declared.row.Row.TheVariants as row
use Rattle.opfs_records.specs.Replay.Built.{Built, all_extents}
use Rattle.opfs_image.specs.Superblock.{data_base}
use Rattle.opfs_image.specs.Reading.{Image, read_as}
use Rattle.opfs_image.specs.declared.refusal.ImageRefusal.{ImageRefusal}

-- a row with the bytes of its file: those of its blocks, cut to its length
abbrev pub filled_row : ℕ → List ℕ → Row → Stored
filled_row base c row.Dir = folder
filled_row base c (row.File f) = document (bytes_of c base f.extents f.length) f.stamp

-- what is built, with the bytes that an image has
abbrev pub filled : ℕ → List ℕ → Built → Map
filled base c b = record { rows = map (λ e. (e.0, filled_row base c e.1)) b.rows; persistent = b.persistent }

-- The place is in a run of blocks, or in one of the runs.
abbrev pub IsIn : ℕ → Extent → ℕ → Type 0
IsIn base e i = (run_place base e ≤ i) × (i < run_place base e + run_room e)

abbrev pub AreIn : ℕ → List Extent → ℕ → Type 0
AreIn base [] i = ⊥
AreIn base (e ∷ more) i = IsIn base e i ⊎ AreIn base more i

-- The place is in a block that a file names.
abbrev pub Names : ℕ → Built → ℕ → Type 0
Names base b i = AreIn base (all_extents b.rows) i

abbrev pub map_of : List ℕ → Result Image ImageRefusal → Option Map
map_of c (Err refused) = None
map_of c (Ok image) = Some (filled (data_base image.geometry) c image.built)

-- What an image stands for; None where it is refused.
abbrev pub map_in : Format → List ℕ → Option Map
map_in f c = map_of c (read_as f f c)

-- The image, in the format of now, stands for a map.
abbrev pub Stands : List ℕ → Map → Type 0
Stands c m = map_in New c ≡ Some m

-- The same for an image of the format before, with its spelling and charge.
abbrev pub StandsOld : List ℕ → Map → Type 0
StandsOld c m = map_in Old c ≡ Some m
