-- Which changes can be applied to what was built so far, and what each one makes of it. This project's own.
use Rattle.std.specs.Prelude.{ℕ, zero, suc, ◌+◌, ◌==◌, Bool, true, false, not, ◌&&◌, List, [], ◌∷◌, length, Option, Some, None, option_map, is_some, nat_lt, nat_le, if◌then◌else◌}
use Rattle.std.specs.List.{list_any, list_all}
use Rattle.std.specs.Ordering.{nat_cmp}
use Rattle.std.specs.FinMap.Entries.{put}
use Rattle.std.specs.Cmp.Lexicographic.{slice_cmp}
use Rattle.opfs_base.specs.Blocks.{blocks}
use Rattle.opfs_base.specs.Keys.{is_origin}
use Rattle.opfs_base.specs.Names.{is_valid_name, fits_limits}
use Rattle.opfs_base.specs.Texts.{Text, same_text}
use Rattle.opfs_base.specs.Places.{Place, place_cmp}
use Rattle.opfs_base.specs.declared.extents.Extent.{Extent}
use Rattle.opfs_blocks.specs.Sets.{blocks_of}
use Rattle.opfs_codec.specs.Reading.{◌>>=◌}
use Rattle.opfs_codec.specs.Reading.{change_at as change_read}
use Rattle.opfs_codec.specs.declared.change.Format.{Format}
use Rattle.opfs_codec.specs.declared.change.Format.TheVariants.{Old, New}
use Rattle.opfs_codec.specs.declared.change.Change.{Change}
use Rattle.opfs_codec.specs.declared.change.Change.TheVariants.{MakeRoot, MakeDir, MakeFile, Remove, Content, Persist, Evict}
use Rattle.opfs_locks.specs.Taking.{open_lock}
use Rattle.opfs_machine.specs.Ordered.{insert_by}
use Rattle.opfs_tree.specs.Rows.{Rows, row_at, file_at, without, change_at, stored}
use Rattle.opfs_tree.specs.declared.row.Row.{Row}
use Rattle.opfs_tree.specs.declared.row.Row.TheVariants as row
use Rattle.opfs_records.specs.Replay.Built.{Built, nothing_built, named_beside, block_count, has_block, is_once}

-- In format 1 a unit's text has no `#`.
abbrev pub is_unit_in : Format → Text → Bool
is_unit_in Old unit = is_origin unit
is_unit_in New unit = true

-- A path's directory and last name; None for a root.
abbrev pub parted : List Text → Option (List Text × Text)
parted [] = None
parted (name ∷ []) = Some ([], name)
parted (first ∷ second ∷ more) = option_map (λ p. (first ∷ p.0, p.1)) (parted (second ∷ more))

abbrev pub is_directory : Option Row → Bool
is_directory None = false
is_directory (Some row.Dir) = true
is_directory (Some (row.File f)) = false

-- A row can be made at a path: its directory is there, nothing is there, and its name and path keep the limits.
abbrev pub can_make_named : Text → List Text → Rows → Option (List Text × Text) → Bool
can_make_named unit path rows None = false
can_make_named unit path rows (Some p) =
    is_directory (row_at (unit, p.0) rows) && not (is_some (row_at (unit, path) rows)) && is_valid_name p.1 && fits_limits p.1 path

abbrev pub can_make : Text → List Text → Rows → Bool
can_make unit path rows = can_make_named unit path rows (parted path)

-- A file of this length can have these extents: each has a block and lies below the size, together they have the blocks
-- that the length takes, and no block is named twice or by another file.
abbrev pub can_hold : ℕ → List ℕ → ℕ → List Extent → Bool
can_hold size others length extents =
    list_all (λ e. nat_lt 0 e.count && nat_le (e.start + e.count) size) extents && block_count extents == blocks length
    && is_once (blocks_of extents) && list_all (λ block. not (has_block others block)) (blocks_of extents)

abbrev pub is_persistent : Built → Text → Bool
is_persistent b unit = list_any (same_text unit) b.persistent

abbrev pub is_root : List Text → Bool
is_root [] = true
is_root (name ∷ names) = false

unfoldable pub can_apply : Format → ℕ → Built → Change → Bool
can_apply f size b (MakeRoot unit) = is_unit_in f unit && not (is_some (row_at (unit, []) b.rows))
can_apply f size b (MakeDir unit path) = is_unit_in f unit && can_make unit path b.rows
can_apply f size b (MakeFile unit path stamp) = is_unit_in f unit && can_make unit path b.rows
can_apply f size b (Remove unit path) = is_unit_in f unit && not (is_root path) && is_some (row_at (unit, path) b.rows)
can_apply f size b (Content unit path stamp length extents) =
    is_unit_in f unit && is_some (file_at (unit, path) b.rows) && can_hold size (named_beside (unit, path) b.rows) length extents
can_apply f size b (Persist unit) = is_unit_in f unit
can_apply f size b (Evict unit) = is_unit_in f unit && is_some (row_at (unit, []) b.rows) && not (is_persistent b unit)

-- A file as it is made: without bytes.
abbrev pub empty_file : ℕ → Row
empty_file stamp = row.File (record { length = 0; stamp = stamp; present = 0; present_stamp = stamp; extents = []; lock = open_lock })

abbrev pub with_row : Built → Place → Row → Built
with_row b place r = record b { rows = put place_cmp place r b.rows }

abbrev pub without_row : Built → Place → Built
without_row b place = record b { rows = without place b.rows }

unfoldable pub applied : Built → Change → Built
applied b (MakeRoot unit) = with_row b (unit, []) row.Dir
applied b (MakeDir unit path) = with_row b (unit, path) row.Dir
applied b (MakeFile unit path stamp) = with_row b (unit, path) (empty_file stamp)
applied b (Remove unit path) = without_row b (unit, path)
applied b (Content unit path stamp length extents) = record b { rows = change_at (unit, path) (stored length stamp extents) b.rows }
applied b (Persist unit) = record b { persistent = insert_by (slice_cmp nat_cmp) unit b.persistent }
applied b (Evict unit) = without_row b (unit, [])

-- What is built with one change more; None where it can't be applied.
abbrev pub tried : Format → ℕ → Built → Change → Option Built
tried f size b change = if can_apply f size b change then Some (applied b change) else None

-- What is built with a list of changes more; None where the bytes are no such list, or one of them can't be applied. A
-- change takes a byte at least, so there are at most as many as bytes.
unfoldable pub built_within : ℕ → Format → ℕ → List ℕ → Built → Option Built
built_within most f size [] b = Some b
built_within zero f size (byte ∷ bytes) b = None
built_within (suc most) f size (byte ∷ bytes) b = do
  change ← change_read f (byte ∷ bytes)
  next ← tried f size b change.0
  built_within most f size change.1 next

abbrev pub built_by : Format → ℕ → List ℕ → Built → Option Built
built_by f size bytes b = built_within (length bytes) f size bytes b

-- What is built with the bodies of some records more.
unfoldable pub built_by_all : Format → ℕ → List (List ℕ) → Built → Option Built
built_by_all f size [] b = Some b
built_by_all f size (body ∷ more) b = do
  next ← built_by f size body b
  built_by_all f size more next

-- What the bodies of records build from nothing.
abbrev pub rows_of : Format → ℕ → List (List ℕ) → Option Built
rows_of f size records = built_by_all f size records nothing_built
