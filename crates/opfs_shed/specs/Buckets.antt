-- Buckets and their usage (Storage: storage bucket, bucket mode; storage usage, storage quota). Counts in blocks, units
-- and the test of the quota are this project's own.
use Rattle.std.specs.Prelude.{ℕ, Bool, true, false, ◌&&◌, List, Option, None, Some, option_map, sum_by, filter, find, unwrap_or, is_some, if◌then◌else◌}
use Rattle.std.specs.Map.{lookup, set_value}
use Rattle.std.specs.BTreeMap.{is_at, insert_entry}
use Rattle.std.specs.Ordering.{nat_cmp, is_lt}
use Rattle.std.specs.declared.cmp.Ordering.{Ordering}
use Rattle.std.specs.Cmp.Lexicographic.{slice_cmp}
use Rattle.opfs_base.specs.Texts.{Text, same_text}
use Rattle.opfs_base.specs.Units.{origin_of}
use Rattle.opfs_shed.specs.declared.shed.Bucket.{Bucket}

-- The bucket of each unit that is in the map, in the order of the units' texts.
abbrev pub Buckets : Type 0
Buckets = List (Text × Bucket)

-- The order of texts.
abbrev pub text_cmp : Text → Text → Ordering
text_cmp = slice_cmp nat_cmp

-- Whether a unit is this one.
abbrev pub is_unit : Text → Text → Bool
is_unit unit = is_at (text_cmp unit)

-- Whether a unit is in the map.
abbrev pub has_unit : Buckets → Text → Bool
has_unit buckets unit = is_some (lookup (is_unit unit) buckets)

-- A bucket as it first is: best-effort, of no blocks.
abbrev pub first_bucket : Bucket
first_bucket = record { persistent = false; usage = 0 }

-- The bucket of a unit; one that is not in the map counts as it first is.
abbrev pub bucket_at : Buckets → Text → Bucket
bucket_at buckets unit = unwrap_or (lookup (is_unit unit) buckets) first_bucket

-- The map with another bucket of a unit, and as it is where the unit is not in it.
abbrev pub with_bucket : Buckets → Text → Bucket → Buckets
with_bucket buckets unit bucket = set_value (is_unit unit) buckets bucket

-- The blocks that the units of an origin use together.
unfoldable pub usage_of : Text → Buckets → ℕ
usage_of origin buckets = sum_by (λ e. e.1.usage) (filter (λ e. same_text origin (origin_of e.0)) buckets)

-- The blocks that all units use together.
abbrev pub whole_usage : Buckets → ℕ
whole_usage buckets = sum_by (λ e. e.1.usage) buckets

-- What so many blocks of a unit are for an origin: all of them for the unit's own, none for another.
abbrev pub part_of : Text → Text → ℕ → ℕ
part_of origin unit blocks = if same_text origin (origin_of unit) then blocks else 0

-- The quota of each origin, and the buckets.
pub record Storage : Type 0 where
  pub quota : ℕ
  pub buckets : Buckets

-- The storage with another bucket of a unit, and as it is where the unit is not in the map.
abbrev pub changed : Storage → Text → Bucket → Storage
changed storage unit bucket = record storage { buckets = with_bucket storage.buckets unit bucket }

-- The buckets with a unit among them: one that is new comes as it first is, in its place.
abbrev pub with_unit : Buckets → Text → Buckets
with_unit buckets unit = elim (has_unit buckets unit) [ true ↦ buckets | false ↦ insert_entry text_cmp buckets unit first_bucket ]

-- The first persistent unit in the order of texts that is past another, or past nothing.
abbrev pub is_past : Option Text → Text → Bool
is_past None unit = true
is_past (Some after) unit = is_lt (text_cmp after unit)

abbrev pub persistent_past : Option Text → Buckets → Option Text
persistent_past after buckets = option_map (λ e. e.0) (find (λ e. is_past after e.0 && e.1.persistent) buckets)
