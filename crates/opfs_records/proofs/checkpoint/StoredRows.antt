-- Rows as they are stored have the places, the bytes and the charge that they had.
use Rattle.std.proofs.Common.{◌≡◌, ◌+◌, ◌++◌, ℕ, ◌&&◌, true, false, cond, [], ◌∷◌, sum_by, Option, Some, None, is_some, option_map, refl, sym, ap, ◌∙◌}
use Rattle.std.specs.List.{AllByRecursion}
use Rattle.std.specs.Ordering.{is_eq, is_lt}
use Rattle.std.specs.FinMap.Entries.{is_sorted, below_all}
use Rattle.std.proofs.lemmas.List.Sums.{sum_by-cons}
use Rattle.opfs_base.specs.Places.{Place, place_cmp}
use Rattle.opfs_codec.specs.declared.change.Format.TheVariants.{New}
use Rattle.opfs_tree.specs.Rows.{Rows, row_at, IsClosed}
use Rattle.opfs_tree.specs.declared.row.Row.{Row}
use Rattle.opfs_tree.specs.declared.row.Row.TheVariants as row
use Rattle.opfs_records.specs.Replay.Built.{IsSoundRow}
use Rattle.opfs_records.specs.Replay.Sums.{row_charge}
use Rattle.opfs_records.specs.Checkpoint.Written.{row_bytes, rows_bytes, stored_row, stored_rows, IsWritableRow}

same_bytes : (place : Place) (r : Row) → row_bytes place (stored_row r) ≡ row_bytes place r
same_bytes place row.Dir = refl
same_bytes place (row.File f) = refl

pub stored_bytes : (rows : Rows) → rows_bytes (stored_rows rows) ≡ rows_bytes rows
stored_bytes [] = refl
stored_bytes (e ∷ es) = ap (λ xs. xs ++ rows_bytes (stored_rows es)) (same_bytes e.0 e.1) ∙ ap (λ xs. row_bytes e.0 e.1 ++ xs) (stored_bytes es)

same_charge : (place : Place) (r : Row) → row_charge New place (stored_row r) ≡ row_charge New place r
same_charge (unit, []) row.Dir = refl
same_charge (unit, name ∷ names) row.Dir = refl
same_charge (unit, path) (row.File f) = refl

abbrev pub charge_rows : Rows → ℕ
charge_rows rows = sum_by (λ (e : Place × Row). row_charge New e.0 e.1) rows

pub stored_charge : (rows : Rows) → charge_rows (stored_rows rows) ≡ charge_rows rows
stored_charge [] = refl
stored_charge (e ∷ es) =
    let cost = λ (x : Place × Row). row_charge New x.0 x.1 in
    sum_by-cons cost (e.0, stored_row e.1) (stored_rows es) ∙ (ap (λ n. n + charge_rows (stored_rows es)) (same_charge e.0 e.1) ∙ (ap (λ n. cost e + n) (stored_charge es) ∙ sym (sum_by-cons cost e es)))

same_writable : (place : Place) (r : Row) → IsWritableRow place r → IsWritableRow place (stored_row r)
same_writable place row.Dir good = good
same_writable place (row.File f) good = good

pub stored_writable : (rows : Rows) → AllByRecursion (λ e. IsWritableRow e.0 e.1) rows → AllByRecursion (λ e. IsWritableRow e.0 e.1) (stored_rows rows)
stored_writable [] all = all
stored_writable (e ∷ es) all = (same_writable e.0 e.1 all.0, stored_writable es all.1)

pub sound_each : (size : ℕ) (rows : Rows) → AllByRecursion (λ e. IsSoundRow size e.1) (stored_rows rows) → AllByRecursion (λ e. IsSoundRow size (stored_row e.1)) rows
sound_each size [] all = all
sound_each size (e ∷ es) all = (all.0, sound_each size es all.1)

pub stored_each : (size : ℕ) (rows : Rows) → AllByRecursion (λ e. IsSoundRow size e.1) (stored_rows rows) → AllByRecursion (λ e. IsSoundRow size (stored_row e.1)) (stored_rows rows)
stored_each size [] all = all
stored_each size (e ∷ es) all = (twice e.1 all.0, stored_each size es all.1)
  where
    twice : (r : Row) → IsSoundRow size (stored_row r) → IsSoundRow size (stored_row (stored_row r))
    twice row.Dir sound = sound
    twice (row.File f) sound = sound

below_stored : (place : Place) (rows : Rows) → below_all place_cmp place (stored_rows rows) ≡ below_all place_cmp place rows
below_stored place [] = refl
below_stored place (e ∷ es) = ap (λ t. is_lt (place_cmp place e.0) && t) (below_stored place es)

pub stored_order : (rows : Rows) → is_sorted place_cmp (stored_rows rows) ≡ is_sorted place_cmp rows
stored_order [] = refl
stored_order (e ∷ es) = ap (λ t. t && is_sorted place_cmp (stored_rows es)) (below_stored e.0 es) ∙ ap (λ t. below_all place_cmp e.0 es && t) (stored_order es)

pub stored_at : (place : Place) (rows : Rows) → row_at place (stored_rows rows) ≡ option_map stored_row (row_at place rows)
stored_at place [] = refl
stored_at place (e ∷ es) =
    elim (is_eq (place_cmp place e.0)) as (λ t. cond t (Some (stored_row e.1)) (row_at place (stored_rows es)) ≡ option_map stored_row (cond t (Some e.1) (row_at place es))) [
      | true ↦ refl
      | false ↦ stored_at place es
    ]

some_kept : (o : Option Row) → is_some (option_map stored_row o) ≡ is_some o
some_kept None = refl
some_kept (Some r) = refl

pub stored_closed : (rows : Rows) → IsClosed rows → IsClosed (stored_rows rows)
stored_closed rows closed place there dir name is =
    stored_at dir rows ∙ ap (option_map stored_row) (closed place (sym (ap is_some (stored_at place rows) ∙ some_kept (row_at place rows)) ∙ there) dir name is)

-- Rows that are sound are as they are stored.
same_row : (size : ℕ) (r : Row) → IsSoundRow size r → stored_row r ≡ r
same_row size row.Dir sound = refl
same_row size (row.File f) sound =
    λ i. row.File (record { length = f.length; stamp = f.stamp; present = sym sound.present i; present_stamp = sym sound.present_stamp i; extents = f.extents; lock = sym sound.unlocked i })

pub sound_stored : (size : ℕ) (rows : Rows) → AllByRecursion (λ e. IsSoundRow size e.1) rows → stored_rows rows ≡ rows
sound_stored size [] sound = refl
sound_stored size (e ∷ es) sound = λ i. ((e.0, same_row size e.1 sound.0 i) ∷ sound_stored size es sound.1 i)
