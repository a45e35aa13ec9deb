-- The bytes that build rows and persistent units from nothing, row by row and then unit by unit. This project's own.
use Rattle.std.specs.Prelude.{ℕ, ◌<◌, ◌≤◌, ◌^◌, ◌==◌, if◌then◌else◌, List, [], ◌∷◌, ◌++◌, length, map}
use Rattle.std.specs.List.{flat_map, AllByRecursion}
use Rattle.opfs_base.specs.Texts.{Text}
use Rattle.opfs_base.specs.Places.{Place}
use Rattle.opfs_codec.specs.Spelling.{spelling, IsKey, IsPath, AreExtents}
use Rattle.opfs_codec.specs.declared.change.Format.TheVariants.{New}
use Rattle.opfs_codec.specs.declared.change.Change.TheVariants.{MakeRoot, MakeDir, MakeFile, Content, Persist}
use Rattle.opfs_locks.specs.Taking.{open_lock}
use Rattle.opfs_records.specs.Replay.Built.{Built}
use Rattle.opfs_tree.specs.Rows.{Rows}
use Rattle.opfs_tree.specs.declared.row.FileRow.{FileRow}
use Rattle.opfs_tree.specs.declared.row.Row.{Row}
use Rattle.opfs_tree.specs.declared.row.Row.TheVariants as row

-- The rows as they are stored: a read gives what was last stored for good, and all locks are open.
abbrev pub stored_file : FileRow → FileRow
stored_file f = record f { present = f.length; present_stamp = f.stamp; lock = open_lock }

abbrev pub stored_row : Row → Row
stored_row row.Dir = row.Dir
stored_row (row.File f) = row.File (stored_file f)

abbrev pub stored_rows : Rows → Rows
stored_rows rows = map (λ e. (e.0, stored_row e.1)) rows

-- A directory is made as a root or in a directory.
abbrev pub dir_bytes : Text → List Text → List ℕ
dir_bytes unit [] = spelling New (MakeRoot unit)
dir_bytes unit (name ∷ names) = spelling New (MakeDir unit (name ∷ names))

-- A file has its content written where it has bytes.
abbrev pub content_bytes : Text → List Text → FileRow → List ℕ
content_bytes unit path f = if f.length == 0 then [] else spelling New (Content unit path f.stamp f.length f.extents)

abbrev pub file_bytes : Text → List Text → FileRow → List ℕ
file_bytes unit path f = spelling New (MakeFile unit path f.stamp) ++ content_bytes unit path f

abbrev pub row_bytes : Place → Row → List ℕ
row_bytes place row.Dir = dir_bytes place.0 place.1
row_bytes place (row.File f) = file_bytes place.0 place.1 f

abbrev pub rows_bytes : Rows → List ℕ
rows_bytes rows = flat_map (λ e. row_bytes e.0 e.1) rows

abbrev pub units_bytes : List Text → List ℕ
units_bytes units = flat_map (λ unit. spelling New (Persist unit)) units

-- The whole: the rows in the order of their places, a file's making and then its content, and then the persistent units
-- in the order of their texts.
abbrev pub built_bytes : Built → List ℕ
built_bytes b = rows_bytes b.rows ++ units_bytes b.persistent

-- A place of a row has a spelling that is read, and its path is no longer than a path may be.
abbrev pub IsWritablePlace : Place → Type 0
IsWritablePlace place = IsKey New place.0 × IsPath place.1 × (length place.1 ≤ 32)

-- So have the numbers and the extents of a file, which is no root.
abbrev pub IsWritableFile : List Text → FileRow → Type 0
IsWritableFile path f = (0 < length path) × (f.stamp < 2 ^ 64) × (f.length < 2 ^ 64) × AreExtents f.extents

abbrev pub IsWritableRow : Place → Row → Type 0
IsWritableRow place row.Dir = IsWritablePlace place
IsWritableRow place (row.File f) = IsWritablePlace place × IsWritableFile place.1 f

-- What can be written: each row and each persistent unit has a spelling that is read.
abbrev pub AreWritable : Rows → List Text → Type 0
AreWritable rows units = AllByRecursion (λ e. IsWritableRow e.0 e.1) rows × AllByRecursion (IsKey New) units
