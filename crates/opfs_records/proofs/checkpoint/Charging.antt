-- The bytes are no more than the charge.
use Rattle.std.proofs.Common.{◌≡◌, refl, ◌+◌, ◌*◌, ◌≤◌, ◌==◌, ◌++◌, ℕ, Bool, true, false, List, [], ◌∷◌, length, sum_by, arith}
use Rattle.std.specs.Prelude.{if◌then◌else◌}
use Rattle.std.specs.List.{AllByRecursion}
use Rattle.std.proofs.lemmas.List.{length-append}
use Rattle.std.proofs.lemmas.List.Sums.{sum_by-cons}
use Rattle.opfs_base.specs.Texts.{Text}
use Rattle.opfs_base.specs.Blocks.{blocks}
use Rattle.opfs_base.specs.Places.{Place}
use Rattle.opfs_codec.specs.Charges.{spelled, unit_bytes, path_bytes}
use Rattle.opfs_codec.specs.Spelling.{spelling}
use Rattle.opfs_codec.specs.declared.change.Format.TheVariants.{New}
use Rattle.opfs_codec.specs.declared.change.Change.TheVariants.{MakeRoot, MakeDir, MakeFile, Content, Persist}
use Rattle.opfs_codec.proofs.WritingLemmas.{length_spelling}
use Rattle.opfs_tree.specs.Rows.{Rows}
use Rattle.opfs_tree.specs.declared.row.FileRow.{FileRow}
use Rattle.opfs_tree.specs.declared.row.Row.{Row}
use Rattle.opfs_tree.specs.declared.row.Row.TheVariants as row
use Rattle.opfs_records.specs.Replay.Built.{IsSoundRow}
use Rattle.opfs_records.specs.Replay.Sums.{row_charge, key_bytes, charge_of}
use Rattle.opfs_records.specs.Checkpoint.Written.{content_bytes, row_bytes, rows_bytes, units_bytes, stored_row}
use Rattle.opfs_records.proofs.checkpoint.Holding.{few_extents}

content_by : Bool → Text → List Text → FileRow → List ℕ
content_by t unit path f = if t then [] else spelling New (Content unit path f.stamp f.length f.extents)

content_below : (unit : Text) (path : List Text) (f : FileRow) (n : ℕ) → length (spelling New (Content unit path f.stamp f.length f.extents)) ≤ n → length (content_bytes unit path f) ≤ n
unfolding content_by
content_below unit path f n le = elim (f.length == 0) as (λ t. length (content_by t unit path f) ≤ n) [ true ↦ omega arith | false ↦ le ]

-- A row's bytes.
pub row_below : (size : ℕ) (place : Place) (r : Row) → IsSoundRow size (stored_row r) → length (row_bytes place r) ≤ row_charge New place r
unfolding spelled
row_below size (unit, []) row.Dir sound = omega (arith, length_spelling (MakeRoot unit))
row_below size (unit, name ∷ names) row.Dir sound = omega (arith, length_spelling (MakeDir unit (name ∷ names)))
row_below size (unit, path) (row.File f) sound =
    let few = few_extents f.extents sound.some in
    let content : length (spelling New (Content unit path f.stamp f.length f.extents)) ≤ 23 + unit_bytes unit + path_bytes path + 8 * blocks f.length = omega (arith, length_spelling (Content unit path f.stamp f.length f.extents), few, sound.whole) in
    omega (arith, length-append (spelling New (MakeFile unit path f.stamp)) (content_bytes unit path f), length_spelling (MakeFile unit path f.stamp), content_below unit path f _ content)

pub rows_below : (size : ℕ) (rows : Rows) → AllByRecursion (λ e. IsSoundRow size (stored_row e.1)) rows → length (rows_bytes rows) ≤ sum_by (λ e. row_charge New e.0 e.1) rows
rows_below size [] sound = omega arith
rows_below size (e ∷ es) sound =
    omega (arith, length-append (row_bytes e.0 e.1) (rows_bytes es), row_below size e.0 e.1 sound.0, rows_below size es sound.1, sum_by-cons (λ (x : Place × Row). row_charge New x.0 x.1) e es)

-- How long the making of a file and of a persistent unit is.
pub file_len : (unit : Text) (path : List Text) (stamp : ℕ) → length (spelling New (MakeFile unit path stamp)) ≡ 11 + unit_bytes unit + path_bytes path
unfolding spelled
file_len unit path stamp = length_spelling (MakeFile unit path stamp)

pub persist_len : (unit : Text) → length (spelling New (Persist unit)) ≡ 3 + unit_bytes unit
unfolding spelled
persist_len unit = length_spelling (Persist unit)

pub units_below : (units : List Text) → length (units_bytes units) ≤ sum_by (λ unit. 3 + key_bytes New unit) units
unfolding spelled
units_below [] = omega arith
units_below (u ∷ us) =
    omega (arith, length-append (spelling New (Persist u)) (units_bytes us), length_spelling (Persist u), units_below us, sum_by-cons (λ (x : Text). 3 + key_bytes New x) u us)

-- The charge is that of the rows and that of the units.
pub charge_parts : (rows : Rows) (units : List Text) → charge_of New (record { rows = rows; persistent = units }) ≡ sum_by (λ e. row_charge New e.0 e.1) rows + sum_by (λ unit. 3 + key_bytes New unit) units
unfolding charge_of
charge_parts rows units = refl

-- What is written for sound rows and for units is no longer than their charge.
pub written_below : (size : ℕ) (rows : Rows) (units : List Text) → AllByRecursion (λ e. IsSoundRow size (stored_row e.1)) rows → length (rows_bytes rows ++ units_bytes units) ≤ charge_of New (record { rows = rows; persistent = units })
unfolding charge_of
written_below size rows units sound = omega (arith, length-append (rows_bytes rows) (units_bytes units), rows_below size rows sound, units_below units)
