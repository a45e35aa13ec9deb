-- The empty store of a trial. This project's own.
use Rattle.std.specs.Prelude.{◌≡◌, ℕ, List, Ok}
use Rattle.opfs_codec.specs.declared.change.Format.TheVariants.{New}
use Rattle.opfs_image.specs.Reading.{read_as}
use Rattle.opfs_image.specs.declared.geometry.Geometry.{Geometry}
use Rattle.opfs_outside.specs.declared.disk.Disk.{Ghosts as DiskWords}
use Rattle.opfs_records.specs.Replay.Built.{nothing_built}

-- The sizes of a trial's image: journal areas of 256 blocks, 16,384 data blocks, and 8,192 blocks an origin.
abbrev pub trial_geometry : Geometry
trial_geometry = record { areas = 256; blocks = 16384; quota = 8192 }

-- An image of these sizes that holds nothing.
abbrev pub IsEmptyImage : List ℕ → Type 0
IsEmptyImage c = read_as New New c ≡ Ok (record { geometry = trial_geometry; built = nothing_built })

-- No disk of this kind ever fails.
abbrev pub NeverFails : {D : Type 0} → DiskWords D → Type 0
NeverFails {D} w = (disk : D) → w.faults disk ≡ 0
