-- Rows that one change leaves, written part after part.
use Rattle.std.proofs.Common.{◌≡◌, ◌+◌, ◌≤◌, ◌++◌, ℕ, true, false, cond, not, List, [], ◌∷◌, map, filter, length, refl, sym, ap, subst, ◌∙◌, append_assoc, arith}
use Rattle.std.proofs.lemmas.List.{length-append}
use Rattle.std.proofs.lemmas.List.Sums.{sum_by-cons}
use Rattle.std.specs.List.{AllByRecursion}
use Rattle.opfs_base.specs.Places.{Place}
use Rattle.opfs_codec.specs.declared.change.Format.TheVariants.{New}
use Rattle.opfs_codec.specs.declared.change.Change.{Change}
use Rattle.opfs_records.specs.Replay.Built.{IsSoundRow}
use Rattle.opfs_records.specs.Replay.Sums.{row_charge}
use Rattle.opfs_tree.specs.Rows.{Rows}
use Rattle.opfs_tree.specs.declared.row.Row.{Row}
use Rattle.opfs_records.specs.Checkpoint.After.{leaves_out, given, row_with, rows_after}
use Rattle.opfs_records.specs.Checkpoint.Written.{row_bytes, rows_bytes, stored_row, IsWritableRow}
use Rattle.opfs_records.proofs.checkpoint.Left.{AllSound, AllWritable, charge_rows, RowsLeft}
use Rattle.opfs_records.proofs.checkpoint.Charging.{rows_below}

bytes_append : (part next : Rows) → rows_bytes (part ++ next) ≡ rows_bytes part ++ rows_bytes next
bytes_append [] next = refl
bytes_append (e ∷ es) next = ap (λ xs. row_bytes e.0 e.1 ++ xs) (bytes_append es next) ∙ sym (append_assoc (row_bytes e.0 e.1) (rows_bytes es) (rows_bytes next))

charge_append : (part next : Rows) → charge_rows (part ++ next) ≡ charge_rows part + charge_rows next
charge_append [] next = omega arith
charge_append (e ∷ es) next =
    omega (arith, sum_by-cons (λ (x : Place × Row). row_charge New x.0 x.1) e (es ++ next), sum_by-cons (λ (x : Place × Row). row_charge New x.0 x.1) e es, charge_append es next)

module _ (P : Place × Row → Type 0) where
  all_split : (part next : Rows) → AllByRecursion P (part ++ next) → AllByRecursion P part × AllByRecursion P next
  all_split [] next all = (tt, all)
  all_split (e ∷ es) next all = let rest = all_split es next all.1 in ((all.0, rest.0), rest.1)

abbrev Entry : Type 0
Entry = Place × Row

-- What a change leaves of one row and of the rows behind it.
one_left : (change : Change) (e : Entry) (es : Rows) → rows_after change (e ∷ es) ≡ rows_after change (e ∷ []) ++ rows_after change es
one_left change e es =
    elim (leaves_out change e.0) as (λ t. map (λ (x : Entry). (x.0, row_with (given change x.0) x.1)) (cond (not t) (e ∷ filter (λ (x : Entry). not (leaves_out change x.0)) es) (filter (λ (x : Entry). not (leaves_out change x.0)) es))
    ≡ map (λ (x : Entry). (x.0, row_with (given change x.0) x.1)) (cond (not t) (e ∷ []) []) ++ rows_after change es) [
      | true ↦ refl
      | false ↦ refl
    ]

module _ (change : Change) (rows rest : Rows) (next : Rows) (place : Place) (r : Row) (start now : List ℕ) (room room_now : ℕ) (so_far : RowsLeft (rows_after change rows) (rows_after change rest) start now room room_now) (is : rest ≡ (place, r) ∷ next) where
  abbrev part : Rows
  part = rows_after change ((place, r) ∷ [])

  split : rows_after change rest ≡ part ++ rows_after change next
  split = ap (rows_after change) is ∙ one_left change (place, r) next

  pub part_written : (new : List ℕ) (room_new : ℕ) → new ≡ now ++ rows_bytes part → room_now ≤ room_new → RowsLeft (rows_after change rows) (rows_after change next) start new room room_new
  part_written new room_new written grown = record {
    written = ap (λ (xs : List ℕ). xs ++ rows_bytes (rows_after change next)) written ∙ append_assoc now (rows_bytes part) (rows_bytes (rows_after change next))
        ∙ ap (λ (xs : List ℕ). now ++ xs) (sym (bytes_append part (rows_after change next))) ∙ ap (λ (xs : Rows). now ++ rows_bytes xs) (sym split) ∙ so_far.written;
    left = (all_split (λ e. IsWritableRow e.0 e.1) part (rows_after change next) (subst AllWritable split so_far.left)).1;
    fits = λ size sound.
        let before = so_far.fits size sound in
        let all = all_split (λ e. IsSoundRow size (stored_row e.1)) part (rows_after change next) (subst (AllSound size) split before.0) in
        let bytes : length new ≡ length now + length (rows_bytes part) = ap length written ∙ length-append now (rows_bytes part) in
        let cost : charge_rows (rows_after change rest) ≡ charge_rows part + charge_rows (rows_after change next) = ap charge_rows split ∙ charge_append part (rows_after change next) in
        (all.1, omega (arith, before.1, bytes, cost, rows_below size part all.0));
    capacity = omega (arith, so_far.capacity, grown);
  }

  -- What is left of the next row can be written.
  pub part_next : AllWritable part
  part_next = (all_split (λ e. IsWritableRow e.0 e.1) part (rows_after change next) (subst AllWritable split so_far.left)).0

  -- Where there is room for the charge of all, there is for the next row's.
  pub part_room : (size : ℕ) → AllSound size (rows_after change rows) → length start + charge_rows (rows_after change rows) ≤ room → AllSound size part × (length now + charge_rows part ≤ room_now)
  part_room size sound le =
      let before = so_far.fits size sound in
      let cost : charge_rows (rows_after change rest) ≡ charge_rows part + charge_rows (rows_after change next) = ap charge_rows split ∙ charge_append part (rows_after change next) in (
        (all_split (λ e. IsSoundRow size (stored_row e.1)) part (rows_after change next) (subst (AllSound size) split before.0)).0,
        omega (arith, before.1, cost, le, so_far.capacity),
      )

-- A row that stays, by itself.
pub left_one : (change : Change) (place : Place) (r : Row) → leaves_out change place ≡ false → rows_after change ((place, r) ∷ []) ≡ (place, row_with (given change place) r) ∷ []
left_one change place r stays = ap (λ t. map (λ (x : Entry). (x.0, row_with (given change x.0) x.1)) (cond (not t) ((place, r) ∷ []) [])) stays
