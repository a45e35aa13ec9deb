-- How a reader of an area's records goes on. This project's own.
use Rattle.std.specs.Prelude.{◌≡◌, ℕ, ◌+◌, ◌<◌, ◌≤◌, Bool, true, List, Result, Ok}
use Rattle.opfs_outside.specs.Bytes.{window}
use Rattle.opfs_journal.specs.Format.{is_open, number_at, chosen_in}
use Rattle.opfs_codec.specs.declared.change.Format.{Format}
use Rattle.opfs_records.specs.Replay.Built.{Built}
use Rattle.opfs_image.specs.Reading.{replayed, area_format, format_number}
use Rattle.opfs_image.specs.Superblock.{geometry_of, areas_of}
use Rattle.opfs_image.specs.declared.geometry.Geometry.{Geometry}

-- the records from a gate on give this, if as many may be read as bytes are left
abbrev pub Yields : Format → ℕ → List ℕ → ℕ → ℕ → ℕ → Built → Result Built ℕ → Type 0
Yields f size c stop skip gate b r = (most : ℕ) → stop ≤ gate + most → replayed most f size c skip gate stop b ≡ r

-- behind this open gate there is a body of this length and these bytes
pub record IsRecord (c : List ℕ) (gate len : ℕ) (body : List ℕ) : Type 0 where
  pub opened : is_open c gate ≡ true
  pub size : len ≡ number_at c (gate + 1)
  pub bytes : body ≡ window c (gate + 5) len

-- behind this open gate there is a record that passes the end with the next gate
pub record IsTooLong (c : List ℕ) (gate stop : ℕ) : Type 0 where
  pub opened : is_open c gate ≡ true
  pub past : stop < gate + 6 + number_at c (gate + 1)

-- the image has this geometry, and this area of it rules and is of the format
pub record IsFound (wanted : Format) (c : List ℕ) (g : Geometry) (second : Bool) : Type 0 where
  pub geometry : geometry_of c ≡ Ok g
  pub chosen : chosen_in (areas_of g) c ≡ Ok second
  pub format : area_format c (areas_of g) second ≡ format_number wanted
