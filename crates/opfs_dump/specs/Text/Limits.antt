-- What a text must keep to be the dump of an image: units, orders, rows that can be made, and room. This project's own.
use Rattle.std.specs.Prelude.{ℕ, ◌-◌, slice_get, Bool, true, false, not, ◌&&◌, List, [], ◌∷◌, ◌++◌, length, map, sum_by, is_some, if◌then◌else◌, Option, Some, None}
use Rattle.std.specs.List.{list_all}
use Rattle.std.specs.Ordering.{is_lt, nat_cmp}
use Rattle.std.specs.Cmp.Lexicographic.{slice_cmp}
use Rattle.opfs_base.specs.Blocks.{blocks}
use Rattle.opfs_base.specs.Places.{Place, place_cmp}
use Rattle.opfs_base.specs.Texts.{Text, same_text}
use Rattle.opfs_base.specs.Keys.{is_origin}
use Rattle.opfs_base.specs.Units.{is_bucket_name, default_bucket, origin_of, bucket_of}
use Rattle.opfs_codec.specs.Spelling.{is_key_text}
use Rattle.opfs_codec.specs.declared.change.Format.TheVariants.{New}
use Rattle.opfs_locks.specs.Taking.{open_lock}
use Rattle.opfs_machine.specs.Openings.{Map, Stored, folder, document}
use Rattle.opfs_records.specs.Replay.Applying.{can_make}
use Rattle.opfs_records.specs.Replay.Built.{Built}
use Rattle.opfs_records.specs.Replay.Sums.{charge_of}
use Rattle.opfs_tree.specs.Rows.{Rows, row_at}
use Rattle.opfs_tree.specs.declared.row.Row.{Row}
use Rattle.opfs_tree.specs.declared.row.Row.TheVariants as row

-- Whether a text is a unit: an origin's key of 1 to 255 bytes without `#`, alone or with `#` and the name of a bucket that is
-- not the default one.
abbrev pub is_unit : Text → Bool
is_unit unit =
    if is_origin unit then is_key_text unit
    else (is_key_text (origin_of unit) && is_bucket_name (bucket_of unit) && not (same_text (bucket_of unit) default_bucket))

-- Whether texts rise strictly.
abbrev pub is_rising : List Text → Bool
is_rising [] = true
is_rising (a ∷ []) = true
is_rising (a ∷ b ∷ more) = is_lt (slice_cmp nat_cmp a b) && is_rising (b ∷ more)

abbrev pub are_units : List Text → Bool
are_units units = list_all is_unit units && is_rising units

-- Rows without their bytes, and in no blocks.
abbrev pub bare_row : Stored → Row
bare_row folder = row.Dir
bare_row (document bytes stamp) =
    row.File (record { length = length bytes; stamp = stamp; present = length bytes; present_stamp = stamp; extents = []; lock = open_lock })

abbrev pub bare_rows : List (Place × Stored) → Rows
bare_rows rows = map (λ e. (e.0, bare_row e.1)) rows

abbrev pub bare : Map → Built
bare m = record { rows = bare_rows m.rows; persistent = m.persistent }

-- Whether a row can be made beside others: a root is a directory; all else has its directory there and a name and a path
-- within their limits.
abbrev pub can_stand : Rows → Place → Stored → Bool
can_stand rows (unit, []) folder = not (is_some (row_at (unit, []) rows))
can_stand rows (unit, []) (document bytes stamp) = false
can_stand rows (unit, name ∷ names) stored = can_make unit (name ∷ names) rows

-- The places of rows, and the last of places.
abbrev pub places_of : {A : Type 0} → List (Place × A) → List Place
places_of rows = map (λ e. e.0) rows

abbrev pub last_of : List Place → Option Place
last_of places = slice_get places (length places - 1)

-- Whether a place comes behind another, if there is one.
abbrev pub is_behind : Option Place → Place → Bool
is_behind None place = true
is_behind (Some last) place = is_lt (place_cmp last place)

-- Whether a row may follow others: it comes behind them, its unit is one, and it can be made.
unfoldable pub may_follow : List (Place × Stored) → Place × Stored → Bool
may_follow done e = is_behind (last_of (places_of done)) e.0 && is_unit e.0.0 && can_stand (bare_rows done) e.0 e.1

-- Whether each of these rows may follow those that are done and those before it.
abbrev pub may_all_follow : List (Place × Stored) → List (Place × Stored) → Bool
may_all_follow done [] = true
may_all_follow done (e ∷ more) = may_follow done e && may_all_follow (done ++ e ∷ []) more

-- The blocks that files take.
abbrev pub stored_blocks : Stored → ℕ
stored_blocks folder = 0
stored_blocks (document bytes stamp) = blocks (length bytes)

abbrev pub blocks_needed : List (Place × Stored) → ℕ
blocks_needed rows = sum_by (λ e. stored_blocks e.1) rows

-- The charge of rows and persistent units.
abbrev pub charge_of_map : Map → ℕ
charge_of_map m = charge_of New (bare m)
