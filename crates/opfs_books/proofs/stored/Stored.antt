-- Changes of the tree's rows, as the rows are stored.
use Rattle.std.proofs.Common.{◌≡◌, ℕ, true, false, cond, List, [], ◌∷◌, Option, Some, None, option_map, is_some, unwrap_or, refl, sym, ap, ◌∙◌}
use Rattle.std.specs.FinMap.Entries.{put, by_order}
use Rattle.std.specs.Ordering.{is_eq}
use Rattle.std.specs.declared.cmp.Ordering.TheVariants.{Less, Equal, Greater}
use Rattle.opfs_base.specs.Places.{Place, place_cmp}
use Rattle.opfs_base.specs.declared.extents.Extent.{Extent}
use Rattle.opfs_codec.specs.declared.change.Change.TheVariants.{Remove}
use Rattle.opfs_records.specs.Checkpoint.Written.{stored_file, stored_row, stored_rows}
use Rattle.opfs_records.proofs.checkpoint.Remaining.{stored_kept}
use Rattle.opfs_records.proofs.checkpoint.StoredRows.{stored_at}
use Rattle.opfs_tree.specs.declared.row.FileRow.{FileRow}
use Rattle.opfs_tree.specs.declared.row.Row.{Row}
use Rattle.opfs_tree.specs.declared.row.Row.TheVariants as row
use Rattle.opfs_tree.specs.Rows.{Rows, row_at, file_of, file_at, without, change_at, changed_row, stored}
use Rattle.opfs_state_rows.specs.Changes.Changed.{stored_in, flushed_in}

pub stored-put : (place : Place) (r : Row) (rows : Rows) → stored_rows (put place_cmp place r rows) ≡ put place_cmp place (stored_row r) (stored_rows rows)
stored-put place r [] = refl
stored-put place r (e ∷ es) =
    elim (place_cmp place e.0) as (λ o. stored_rows (by_order o ((place, r) ∷ e ∷ es) ((e.0, r) ∷ es) (e ∷ put place_cmp place r es))
    ≡ by_order o ((place, stored_row r) ∷ (e.0, stored_row e.1) ∷ stored_rows es) ((e.0, stored_row r) ∷ stored_rows es) ((e.0, stored_row e.1) ∷ put place_cmp place (stored_row r) (stored_rows es))) [
      | Less ↦ refl
      | Equal ↦ refl
      | Greater ↦ ap (λ xs. (e.0, stored_row e.1) ∷ xs) (stored-put place r es)
    ]

pub stored-without : (place : Place) (rows : Rows) → stored_rows (without place rows) ≡ without place (stored_rows rows)
stored-without place rows = stored_kept (Remove place.0 place.1) rows

some_row : (x : Row) → ◌≡◌ {A = Option Row} None (Some x) → ⊥
some_row x h = cc

none_file : (f : FileRow) → ◌≡◌ {A = Option FileRow} None (Some f) → ⊥
none_file f h = cc

some_file : (f : FileRow) → ◌≡◌ {A = Option FileRow} (Some f) None → ⊥
some_file f h = cc

same_file : (f g : FileRow) → ◌≡◌ {A = Option FileRow} (Some f) (Some g) → f ≡ g
same_file f g h = cc

row_by : (change to : FileRow → FileRow) (r : Row) (f : FileRow) → file_of (Some r) ≡ Some f → change f ≡ to f → changed_row change r ≡ changed_row to r
row_by change to row.Dir f h same = absurd (none_file f h)
row_by change to (row.File g) f h same = let is = same_file g f h in ap row.File (ap change is ∙ same ∙ ap to (sym is))

row_none : (change : FileRow → FileRow) (r : Row) → file_of (Some r) ≡ None → changed_row change r ≡ r
row_none change row.Dir h = refl
row_none change (row.File g) h = absurd (some_file g h)

-- Two changes that do the same to the file at a place.
pub change-here : (place : Place) (change to : FileRow → FileRow) (rows : Rows) (f : FileRow) → file_at place rows ≡ Some f → change f ≡ to f → change_at place change rows ≡ change_at place to rows
change-here place change to [] f h same = refl
change-here place change to (e ∷ es) f h same =
    elim (is_eq (place_cmp place e.0)) as (λ b. file_of (cond b (Some e.1) (row_at place es)) ≡ Some f
    → (elim b as (λ y. Rows) [ true ↦ (e.0, changed_row change e.1) ∷ es | false ↦ e ∷ change_at place change es ]) ≡ (elim b as (λ y. Rows) [ true ↦ (e.0, changed_row to e.1) ∷ es | false ↦ e ∷ change_at place to es ])) [
      | true ↦ λ g. ap (λ (r : Row). (e.0, r) ∷ es) (row_by change to e.1 f g same)
      | false ↦ λ g. ap (λ xs. e ∷ xs) (change-here place change to es f g same)
    ] h

-- Where no file is, nothing changes.
pub change-none : (place : Place) (change : FileRow → FileRow) (rows : Rows) → file_at place rows ≡ None → change_at place change rows ≡ rows
change-none place change [] h = refl
change-none place change (e ∷ es) h =
    elim (is_eq (place_cmp place e.0)) as (λ b. file_of (cond b (Some e.1) (row_at place es)) ≡ None
    → (elim b as (λ y. Rows) [ true ↦ (e.0, changed_row change e.1) ∷ es | false ↦ e ∷ change_at place change es ]) ≡ e ∷ es) [
      | true ↦ λ g. ap (λ (r : Row). (e.0, r) ∷ es) (row_none change e.1 g)
      | false ↦ λ g. ap (λ xs. e ∷ xs) (change-none place change es g)
    ] h

module _ (change to : FileRow → FileRow) (same : (f : FileRow) → stored_file (change f) ≡ to (stored_file f)) where
  row_changed : (r : Row) → stored_row (changed_row change r) ≡ changed_row to (stored_row r)
  row_changed row.Dir = refl
  row_changed (row.File f) = ap row.File (same f)

  pub stored-changed : (place : Place) (rows : Rows) → stored_rows (change_at place change rows) ≡ change_at place to (stored_rows rows)
  stored-changed place [] = refl
  stored-changed place (e ∷ es) =
      elim (is_eq (place_cmp place e.0)) as (λ b. stored_rows (elim b as (λ y. Rows) [ true ↦ (e.0, changed_row change e.1) ∷ es | false ↦ e ∷ change_at place change es ])
      ≡ (elim b as (λ y. Rows) [ true ↦ (e.0, changed_row to (stored_row e.1)) ∷ stored_rows es | false ↦ (e.0, stored_row e.1) ∷ change_at place to (stored_rows es) ])) [
        | true ↦ ap (λ (r : Row). (e.0, r) ∷ stored_rows es) (row_changed e.1)
        | false ↦ ap (λ xs. (e.0, stored_row e.1) ∷ xs) (stored-changed place es)
      ]

-- A change of nothing that is stored.
module _ (change : FileRow → FileRow) (same : (f : FileRow) → stored_file (change f) ≡ stored_file f) where
  row_silent : (r : Row) → stored_row (changed_row change r) ≡ stored_row r
  row_silent row.Dir = refl
  row_silent (row.File f) = ap row.File (same f)

  pub stored-silent : (place : Place) (rows : Rows) → stored_rows (change_at place change rows) ≡ stored_rows rows
  stored-silent place [] = refl
  stored-silent place (e ∷ es) =
      elim (is_eq (place_cmp place e.0)) as (λ b. stored_rows (elim b as (λ y. Rows) [ true ↦ (e.0, changed_row change e.1) ∷ es | false ↦ e ∷ change_at place change es ]) ≡ (e.0, stored_row e.1) ∷ stored_rows es) [
        | true ↦ ap (λ (r : Row). (e.0, r) ∷ stored_rows es) (row_silent e.1)
        | false ↦ ap (λ xs. (e.0, stored_row e.1) ∷ xs) (stored-silent place es)
      ]

-- A content that a file is given, in these extents or in those that it has.
pub stored-content : (place : Place) (size stamp : ℕ) (extents : Option (List Extent)) (rows : Rows) (f : FileRow) → file_at place rows ≡ Some f
    → stored_rows (change_at place (stored_in size stamp extents) rows) ≡ change_at place (stored size stamp (unwrap_or extents f.extents)) (stored_rows rows)
stored-content place size stamp extents rows f there =
    ap stored_rows (change-here place (stored_in size stamp extents) (stored size stamp (unwrap_or extents f.extents)) rows f there refl)
    ∙ stored-changed (stored size stamp (unwrap_or extents f.extents)) (stored size stamp (unwrap_or extents f.extents)) (λ g. refl) place rows

pub stored-flushed : (place : Place) (extents : Option (List Extent)) (rows : Rows) (f : FileRow) → file_at place rows ≡ Some f
    → stored_rows (change_at place (flushed_in extents) rows) ≡ change_at place (stored f.present f.present_stamp (unwrap_or extents f.extents)) (stored_rows rows)
stored-flushed place extents rows f there =
    ap stored_rows (change-here place (flushed_in extents) (stored f.present f.present_stamp (unwrap_or extents f.extents)) rows f there refl)
    ∙ stored-changed (stored f.present f.present_stamp (unwrap_or extents f.extents)) (stored f.present f.present_stamp (unwrap_or extents f.extents)) (λ g. refl) place rows

-- What is at a place.
pub file-stored : (place : Place) (rows : Rows) (f : FileRow) → file_at place rows ≡ Some f → is_some (file_at place (stored_rows rows)) ≡ true
file-stored place rows f there = ap (λ (o : Option Row). is_some (file_of o)) (stored_at place rows) ∙ found (row_at place rows) there
  where
    found : (o : Option Row) → file_of o ≡ Some f → is_some (file_of (option_map stored_row o)) ≡ true
    found None h = absurd (none_file f h)
    found (Some row.Dir) h = absurd (none_file f h)
    found (Some (row.File g)) h = refl

pub some-stored : (place : Place) (rows : Rows) → is_some (row_at place (stored_rows rows)) ≡ is_some (row_at place rows)
some-stored place rows = ap is_some (stored_at place rows) ∙ kept (row_at place rows)
  where
    kept : (o : Option Row) → is_some (option_map stored_row o) ≡ is_some o
    kept None = refl
    kept (Some r) = refl
