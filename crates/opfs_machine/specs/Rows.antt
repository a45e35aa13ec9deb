-- The rows of the store: a finite map from places, as the list in their order.
use Rattle.std.specs.Prelude.{ℕ, Bool, true, false, not, ◌&&◌, List, [], ◌∷◌, Option, Some, None, is_some, filter}
use Rattle.std.specs.List.{list_any, filter_map}
use Rattle.std.specs.Ordering.{is_eq}
use Rattle.std.specs.FinMap.Entries.{put, find}
use Rattle.opfs_base.specs.Texts.{Text}
use Rattle.opfs_base.specs.Places.{Place, place_cmp, place_of, is_within, child_name}
use Rattle.opfs_base.specs.declared.locator.Kind.{Kind}
use Rattle.opfs_base.specs.declared.locator.Kind.TheVariants as kind
use Rattle.opfs_base.specs.declared.locator.Locator.{Locator}
use Rattle.opfs_locks.specs.Taking.{Lock, is_open, open_lock}
use Rattle.opfs_machine.specs.declared.state.FileRow.{FileRow}
use Rattle.opfs_machine.specs.declared.state.Row.{Row}
use Rattle.opfs_machine.specs.declared.state.Row.TheVariants as row
use Rattle.opfs_machine.specs.declared.state.State.{State}

abbrev pub Rows : Type 0 → Type 0
Rows F = List (Place × Row F)

-- The row at a place.
abbrev pub row_at : {F R : Type 0} → State F R → Place → Option (Row F)
row_at s place = find place_cmp place s.rows

-- The state with a row at a place.
abbrev pub with_row : {F R : Type 0} → State F R → Place → Row F → State F R
with_row s place r = record s { rows = put place_cmp place r s.rows }

abbrev pub is_file : {F : Type 0} → Row F → Bool
is_file row.Directory = false
is_file (row.File f) = true

abbrev pub is_directory : {F : Type 0} → Row F → Bool
is_directory row.Directory = true
is_directory (row.File f) = false

abbrev pub is_of_kind : {F : Type 0} → Kind → Row F → Bool
is_of_kind kind.File r = is_file r
is_of_kind kind.Directory r = is_directory r

abbrev pub kind_of : {F : Type 0} → Row F → Kind
kind_of row.Directory = kind.Directory
kind_of (row.File f) = kind.File

abbrev pub file_of : {F : Type 0} → Option (Row F) → Option (FileRow F)
file_of None = None
file_of (Some row.Directory) = None
file_of (Some (row.File f)) = Some f

-- The file at a place.
abbrev pub file_at : {F R : Type 0} → State F R → Place → Option (FileRow F)
file_at s place = file_of (row_at s place)

abbrev pub holds_kind : {F : Type 0} → Kind → Option (Row F) → Bool
holds_kind k None = false
holds_kind k (Some r) = is_of_kind k r

abbrev pub wants : Kind → Locator → Bool
wants kind.File at = is_of_kind {F = ℕ} at.kind (row.File (record { present = 0; stamp = 0; lock = open_lock; durable = 0; durable_stamp = 0 }))
wants kind.Directory at = is_of_kind {F = ℕ} at.kind row.Directory

-- Whether a locator is located for a call that wants this kind (File System: locate an entry): it is of that kind, and
-- a row of that kind is there.
abbrev pub is_located : {F R : Type 0} → State F R → Kind → Locator → Bool
is_located s k at = wants k at && holds_kind k (row_at s (place_of at))

-- The rows at a place and below it, in order.
abbrev pub rows_within : {F R : Type 0} → State F R → Place → Rows F
rows_within s place = filter (λ e. is_within place e.0) s.rows

-- The state without a row and all below it.
abbrev pub without : {F R : Type 0} → State F R → Place → State F R
without s place = record s { rows = filter (λ e. not (is_within place e.0)) s.rows }

-- The names of a directory's children, in order.
abbrev pub children_of : {F R : Type 0} → State F R → Place → List Text
children_of s dir = filter_map (λ e. child_name dir e.0) s.rows

abbrev pub has_children : {F R : Type 0} → State F R → Place → Bool
has_children s dir = list_any (λ e. is_some (child_name dir e.0)) s.rows

abbrev pub taken_lock : {F : Type 0} → Row F → Option Lock
taken_lock row.Directory = None
taken_lock (row.File f) = elim (is_open f.lock.0) [ true ↦ None | false ↦ Some f.lock ]

-- The first lock among rows that is not open.
abbrev pub first_locked : {F : Type 0} → Rows F → Option Lock
first_locked [] = None
first_locked (e ∷ es) = elim (taken_lock e.1) [ Some lock ↦ Some lock | None ↦ first_locked es ]

-- A new file.
abbrev pub new_file : {F : Type 0} → F → ℕ → Row F
new_file content stamp = row.File (record { present = content; stamp = stamp; lock = open_lock; durable = content; durable_stamp = stamp })

abbrev pub changed_row : {F : Type 0} → (FileRow F → FileRow F) → Row F → Row F
changed_row change row.Directory = row.Directory
changed_row change (row.File f) = row.File (change f)

-- The rows with the file at a place changed, where one is there.
abbrev pub change_at : {F : Type 0} → Place → (FileRow F → FileRow F) → Rows F → Rows F
change_at place change [] = []
change_at place change (e ∷ es) = elim (is_eq (place_cmp place e.0)) [
  | true ↦ (e.0, changed_row change e.1) ∷ es
  | false ↦ e ∷ change_at place change es
]

-- The state with the file at a place changed, where one is there.
abbrev pub with_file : {F R : Type 0} → State F R → Place → (FileRow F → FileRow F) → State F R
with_file s place change = record s { rows = change_at place change s.rows }
