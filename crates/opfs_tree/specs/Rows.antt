-- The rows of the store: a finite map from places, as the list in their order. This project's own; what the words serve
-- is said at each.
use Rattle.std.specs.Prelude.{◌≡◌, ℕ, Bool, true, false, not, ◌||◌, List, [], ◌∷◌, map, filter, Option, Some, None, IsSome, option_map, is_some, is_none, unwrap_or, IsTrue}
use Rattle.std.specs.List.{list_any, list_all, filter_map, flat_map, find}
use Rattle.std.specs.Cmp.Lexicographic.{slice_cmp}
use Rattle.std.specs.Ordering.{is_eq, is_lt, nat_cmp}
use Rattle.std.specs.FinMap.Entries.{is_sorted}
use Rattle.std.specs.FinMap.Entries as map
use Rattle.opfs_base.specs.Blocks.{blocks}
use Rattle.opfs_base.specs.Texts.{Text, same_text}
use Rattle.opfs_base.specs.Places.{Place, place_cmp, is_within, child, child_name}
use Rattle.opfs_base.specs.declared.extents.Extent.{Extent}
use Rattle.opfs_base.specs.declared.locator.Kind.{Kind}
use Rattle.opfs_base.specs.declared.locator.Kind.TheVariants as kind
use Rattle.opfs_locks.specs.declared.Want.{Want}
use Rattle.opfs_locks.specs.Taking.{Lock, is_open, taken, released}
use Rattle.opfs_tree.specs.declared.row.FileRow.{FileRow}
use Rattle.opfs_tree.specs.declared.row.Row.{Row}
use Rattle.opfs_tree.specs.declared.row.Row.TheVariants as row

abbrev pub Rows : Type 0
Rows = List (Place × Row)

-- The row at a place.
abbrev pub row_at : Place → Rows → Option Row
row_at place rows = map.find place_cmp place rows

abbrev pub kind_of : Row → Kind
kind_of row.Dir = kind.Directory
kind_of (row.File f) = kind.File

abbrev pub file_in : Row → Option FileRow
file_in row.Dir = None
file_in (row.File f) = Some f

abbrev pub file_of : Option Row → Option FileRow
file_of None = None
file_of (Some r) = file_in r

-- The file at a place; None where a directory or nothing is there.
abbrev pub file_at : Place → Rows → Option FileRow
file_at place rows = file_of (row_at place rows)

-- The extents of a row's file.
abbrev pub extents_of : Row → List Extent
extents_of row.Dir = []
extents_of (row.File f) = f.extents

-- The rows at a place and below it, in the order of their places.
abbrev pub rows_within : Place → Rows → List Row
rows_within place rows = map (λ e. e.1) (filter (λ e. is_within place e.0) rows)

-- The extents of the files at a place and below it, in the order of their places.
abbrev pub extents_within : Place → Rows → List Extent
extents_within place rows = flat_map extents_of (rows_within place rows)

-- The rows but for those at a place and below it.
abbrev pub without : Place → Rows → Rows
without place rows = filter (λ e. not (is_within place e.0)) rows

-- The lock of a row's file, where it is not open.
abbrev pub taken_lock : Row → Option Lock
taken_lock row.Dir = None
taken_lock (row.File f) = elim (is_open f.lock.0) [ true ↦ None | false ↦ Some f.lock ]

-- The first lock among rows that is not open (removeEntry's test of locks is this project's own).
abbrev pub first_taken : List Row → Option Lock
first_taken [] = None
first_taken (r ∷ rs) = elim (taken_lock r) [ Some lock ↦ Some lock | None ↦ first_taken rs ]

-- A directory's children in order, with their kinds (File System: a directory entry's children).
abbrev pub children_of : Place → Rows → List (Text × Kind)
children_of dir rows = filter_map (λ e. option_map (λ name. (name, kind_of e.1)) (child_name dir e.0)) rows

-- Whether a place has children.
abbrev pub has_children : Place → Rows → Bool
has_children dir rows = list_any (λ e. is_some (child_name dir e.0)) rows

-- The first of these children whose name is not among those given.
abbrev pub least_not_in : List Text → List (Text × Kind) → Option (Text × Kind)
least_not_in past children = find (λ c. not (list_any (same_text c.0) past)) children

-- The first of these children whose name is above another.
abbrev pub least_above : Text → List (Text × Kind) → Option (Text × Kind)
least_above name children = find (λ c. is_lt (slice_cmp nat_cmp name c.0)) children

-- The rows above a place in their order, or all of them.
abbrev pub rows_above : Option Place → Rows → Rows
rows_above None rows = rows
rows_above (Some place) rows = filter (λ e. is_lt (place_cmp place e.0)) rows

abbrev pub changed_row : (FileRow → FileRow) → Row → Row
changed_row change row.Dir = row.Dir
changed_row change (row.File f) = row.File (change f)

-- The rows with the file at a place changed, where one is there.
abbrev pub change_at : Place → (FileRow → FileRow) → Rows → Rows
change_at place change [] = []
change_at place change (e ∷ es) = elim (is_eq (place_cmp place e.0)) [
  | true ↦ (e.0, changed_row change e.1) ∷ es
  | false ↦ e ∷ change_at place change es
]

-- The file with a lock that was asked for (File System: take a lock), or as it is where that fails.
abbrev pub locked : Want → FileRow → FileRow
locked want f = record f { lock = unwrap_or (taken want f.lock) f.lock }

-- The file whose lock one holder released (File System: release the lock).
abbrev pub unlocked : FileRow → FileRow
unlocked f = record f { lock = released f.lock }

-- The file with another content.
abbrev pub stored : ℕ → ℕ → List Extent → FileRow → FileRow
stored length stamp extents f = record f { length = length; stamp = stamp; present = length; present_stamp = stamp; extents = extents }

-- The file with other bytes that a read gives now.
abbrev pub written : ℕ → ℕ → FileRow → FileRow
written length stamp f = record f { present = length; present_stamp = stamp }

-- How many of a row's files have a taken lock: one or none.
abbrev pub holds : Row → ℕ
holds r = elim (taken_lock r) [ Some lock ↦ 1 | None ↦ 0 ]

-- Whether no file of a unit has a taken lock.
abbrev pub none_taken : Text → Rows → Bool
none_taken unit rows = list_all (λ e. not (same_text unit e.0.0) || is_none (taken_lock e.1)) rows

-- The blocks of a row's bytes: of those that a read gives now, and of those that were last stored for good.
abbrev pub present_blocks : Row → ℕ
present_blocks row.Dir = 0
present_blocks (row.File f) = blocks f.present

abbrev pub durable_blocks : Row → ℕ
durable_blocks row.Dir = 0
durable_blocks (row.File f) = blocks f.length

-- Whatever directory this place is a child of is there.
abbrev pub HasParent : Place → Rows → Type 0
HasParent place rows = (dir : Place) (name : Text) → place ≡ child dir name → row_at dir rows ≡ Some row.Dir

-- Each row but the roots stands in a directory.
abbrev pub IsClosed : Rows → Type 0
IsClosed rows = (place : Place) → IsSome (row_at place rows) → HasParent place rows

-- The rows stand in the order of their places, one at each.
abbrev pub IsInOrder : Rows → Type 0
IsInOrder rows = IsTrue (is_sorted place_cmp rows)
