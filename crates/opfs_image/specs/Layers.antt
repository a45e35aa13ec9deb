-- The two layers of an image: the records that its journal has, and what they build. This project's own.
use Rattle.std.specs.Prelude.{◌≡◌, ℕ, ◌+◌, ◌≤◌, List, Some, Ok}
use Rattle.opfs_codec.specs.declared.change.Format.{Format}
use Rattle.opfs_journal.specs.Format.{Stored, records_of}
use Rattle.opfs_records.specs.Replay.Applying.{rows_of}
use Rattle.opfs_records.specs.Replay.Sums.{charge_of}
use Rattle.opfs_image.specs.Reading.{Image, format_number}
use Rattle.opfs_image.specs.Superblock.{geometry_of, areas_of, area_bytes}

-- The image has this geometry; its areas have records of the format; they build this; and its charge fits an area.
pub record IsLayered (wanted counted : Format) (c : List ℕ) (image : Image) : Type 0 where
  pub geometry : geometry_of c ≡ Ok image.geometry
  pub stored : Stored
  pub records : records_of (areas_of image.geometry) c ≡ Some stored
  pub format : stored.format ≡ format_number wanted
  pub built : rows_of wanted image.geometry.blocks stored.records ≡ Some image.built
  pub fits : charge_of counted image.built + 7 ≤ area_bytes image.geometry
