-- What an image is read as: its geometry and what its records build, or why it is refused. This project's own.
use Rattle.std.specs.Prelude.{ℕ, zero, suc, ◌+◌, ◌==◌, Bool, List, drop, slice_index, nat_lt, nat_le, if◌then◌else◌, Option, Some, None, Result, Ok, Err}
use Rattle.opfs_outside.specs.Bytes.{window}
use Rattle.opfs_codec.specs.declared.change.Format.{Format}
use Rattle.opfs_codec.specs.declared.change.Format.TheVariants.{Old, New}
use Rattle.opfs_journal.specs.Format.{is_open, number_at, begin_of, format_of, chosen_in}
use Rattle.opfs_journal.specs.declared.areas.Areas.{Areas}
use Rattle.opfs_journal.specs.declared.refusal.OpenRefusal.{OpenRefusal}
use Rattle.opfs_records.specs.Replay.Built.{Built, nothing_built}
use Rattle.opfs_records.specs.Replay.Applying.{built_by}
use Rattle.opfs_records.specs.Replay.Sums.{charge_of}
use Rattle.opfs_image.specs.Answers.{refused_first, not_of}
use Rattle.opfs_image.specs.Superblock.{geometry_of, area_bytes, areas_of}
use Rattle.opfs_image.specs.declared.geometry.Geometry.{Geometry}
use Rattle.opfs_image.specs.declared.refusal.ImageRefusal.{ImageRefusal}
use Rattle.opfs_image.specs.declared.refusal.ImageRefusal.TheVariants as refusal

-- the number of a format
abbrev pub format_number : Format → ℕ
format_number Old = 1
format_number New = 2

-- A body that is no list of changes that can be applied is bad at its gate.
abbrev pub or_bad_at : ℕ → Option Built → Result Built ℕ
or_bad_at gate None = Err gate
or_bad_at gate (Some b) = Ok b

abbrev pub then_built : Result Built ℕ → (Built → Result Built ℕ) → Result Built ℕ
then_built (Err bad) next = Err bad
then_built (Ok b) next = next b

-- What the records from a gate on build more, up to the first gate that is not open; or the place of the first open gate
-- that is bad: its length with the next gate passes the end, or its body is no list of changes that can be applied. So
-- many bytes of the first body are left out: the generation byte.
abbrev pub replayed : ℕ → Format → ℕ → List ℕ → ℕ → ℕ → ℕ → Built → Result Built ℕ
replayed zero f size c skip gate stop b = Err gate
replayed (suc most) f size c skip gate stop b =
    if is_open c gate then
    (if nat_le (gate + 6 + number_at c (gate + 1)) stop then
    then_built (or_bad_at gate (built_by f size (drop skip (window c (gate + 5) (number_at c (gate + 1)))) b))
    (λ next. replayed most f size c 0 (gate + 5 + number_at c (gate + 1)) stop next)
    else Err gate)
    else Ok b

-- What an area's records build.
abbrev pub area_built : Format → ℕ → List ℕ → Areas → Bool → Result Built ℕ
area_built f size c a second = replayed a.bytes f size c 1 (begin_of a second) (begin_of a second + a.bytes) nothing_built

-- the format of an area, by its generation byte
abbrev pub area_format : List ℕ → Areas → Bool → ℕ
area_format c a second = format_of (slice_index c (begin_of a second + 5))

-- What was built, unless its charge with a record's 7 bytes passes the area.
abbrev pub unless_overfull : Format → ℕ → Result Built ℕ → Result Built ImageRefusal
unless_overfull counted area (Err bad) = Err (refusal.BadRecord bad)
unless_overfull counted area (Ok b) =
    if nat_lt area (charge_of counted b + 7) then Err (refusal.Overfull (charge_of counted b) area) else Ok b

abbrev pub built_in_area : Format → Format → Geometry → List ℕ → Result Bool OpenRefusal → Result Built ImageRefusal
built_in_area wanted counted g c (Err first) = Err (refused_first first)
built_in_area wanted counted g c (Ok second) =
    if area_format c (areas_of g) second == format_number wanted then
    unless_overfull counted (area_bytes g) (area_built wanted g.blocks c (areas_of g) second)
    else Err (not_of wanted)

-- An image: its geometry, and what its records build.
pub record Image : Type 0 where
  pub geometry : Geometry
  pub built : Built

abbrev pub image_of : Geometry → Result Built ImageRefusal → Result Image ImageRefusal
image_of g (Err refused) = Err refused
image_of g (Ok b) = Ok (record { geometry = g; built = b })

abbrev pub read_from : Format → Format → List ℕ → Result Geometry ImageRefusal → Result Image ImageRefusal
read_from wanted counted c (Err refused) = Err refused
read_from wanted counted c (Ok g) = image_of g (built_in_area wanted counted g c (chosen_in (areas_of g) c))

-- What an image of one format is read as, its charge counted as in another.
abbrev pub read_as : Format → Format → List ℕ → Result Image ImageRefusal
read_as wanted counted c = read_from wanted counted c (geometry_of c)
