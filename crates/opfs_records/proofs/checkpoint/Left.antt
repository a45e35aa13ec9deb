-- What is written so far, and what is left to write.
use Rattle.std.proofs.Common.{◌≡◌, ◌+◌, ◌≤◌, ◌++◌, ℕ, List, ◌∷◌, length, sum_by, Option, Some, None, sym, ap, subst, ◌∙◌, append_assoc, arith}
use Rattle.std.proofs.lemmas.List.{length-append}
use Rattle.std.proofs.lemmas.List.Sums.{sum_by-cons}
use Rattle.std.specs.Option.{IfSome, IsSomeAnd}
use Rattle.std.specs.List.{AllByRecursion}
use Rattle.opfs_base.specs.Texts.{Text}
use Rattle.opfs_base.specs.Places.{Place}
use Rattle.opfs_codec.specs.Charges.{unit_bytes}
use Rattle.opfs_codec.specs.Spelling.{spelling, IsKey}
use Rattle.opfs_codec.specs.declared.change.Format.TheVariants.{New}
use Rattle.opfs_codec.specs.declared.change.Change.TheVariants.{Persist}
use Rattle.opfs_tree.specs.Rows.{Rows, rows_above}
use Rattle.opfs_tree.specs.declared.row.Row.{Row}
use Rattle.opfs_records.specs.Replay.Built.{IsSoundRow}
use Rattle.opfs_records.specs.Replay.Sums.{row_charge}
use Rattle.opfs_records.specs.Checkpoint.Written.{row_bytes, rows_bytes, units_bytes, stored_row, IsWritableRow}
use Rattle.opfs_records.proofs.checkpoint.Charging.{row_below, persist_len}

abbrev pub AllSound : ℕ → Rows → Type 0
AllSound size rows = AllByRecursion (λ e. IsSoundRow size (stored_row e.1)) rows

abbrev pub AllWritable : Rows → Type 0
AllWritable rows = AllByRecursion (λ e. IsWritableRow e.0 e.1) rows

abbrev pub charge_rows : Rows → ℕ
charge_rows rows = sum_by (λ e. row_charge New e.0 e.1) rows

-- Some of the rows are written behind what a buffer held, and the rest is left.
pub record RowsLeft (rows rest : Rows) (start now : List ℕ) (room room_now : ℕ) : Type 0 where
  pub written : now ++ rows_bytes rest ≡ start ++ rows_bytes rows
  pub left : AllWritable rest
  pub fits : (size : ℕ) → AllSound size rows → AllSound size rest × (length now + charge_rows rest ≤ length start + charge_rows rows)
  pub capacity : room ≤ room_now

module _ (rows rest next : Rows) (place : Place) (r : Row) (start now : List ℕ) (room room_now : ℕ) (so_far : RowsLeft rows rest start now room room_now) (is : rest ≡ (place, r) ∷ next) where
  pub one_written : (new : List ℕ) (room_new : ℕ) → new ≡ now ++ row_bytes place r → room_now ≤ room_new → RowsLeft rows next start new room room_new
  one_written new room_new written grown = record {
    written = ap (λ (xs : List ℕ). xs ++ rows_bytes next) written ∙ append_assoc now (row_bytes place r) (rows_bytes next) ∙ ap (λ (xs : Rows). now ++ rows_bytes xs) (sym is) ∙ so_far.written;
    left = (subst AllWritable is so_far.left).1;
    fits = λ size sound.
        let before = so_far.fits size sound in
        let all = subst (AllSound size) is before.0 in
        let bytes : length new ≡ length now + length (row_bytes place r) = ap length written ∙ length-append now (row_bytes place r) in
        let cost : charge_rows rest ≡ row_charge New place r + charge_rows next = ap charge_rows is ∙ sum_by-cons (λ (e : Place × Row). row_charge New e.0 e.1) (place, r) next in
        (all.1, omega (arith, before.1, bytes, cost, row_below size place r all.0));
    capacity = omega (arith, so_far.capacity, grown);
  }

  -- The next row can be written.
  pub row_next : IsWritableRow place r
  row_next = (subst AllWritable is so_far.left).0

  -- Where there is room for the charge of all, there is for the next row's.
  pub room_next : (size : ℕ) → AllSound size rows → length start + charge_rows rows ≤ room → IsSoundRow size (stored_row r) × (length now + row_charge New place r ≤ room_now)
  room_next size sound le =
      let before = so_far.fits size sound in
      let cost : charge_rows rest ≡ row_charge New place r + charge_rows next = ap charge_rows is ∙ sum_by-cons (λ (e : Place × Row). row_charge New e.0 e.1) (place, r) next in
      ((subst (AllSound size) is before.0).0, omega (arith, before.1, cost, le, so_far.capacity))

-- Where a walk came to, the row there is followed by the rows above it.
pub came_to : (walk next : Option Place) (rows : Rows) (r : Row) (unit : Text) (path : List Text) → IsSomeAnd next (λ place. rows_above walk rows ≡ (place, r) ∷ rows_above (Some place) rows)
    → IfSome next (λ place. unit ≡ place.0) → IfSome next (λ place. path ≡ place.1) → rows_above walk rows ≡ ((unit, path), r) ∷ rows_above next rows
came_to walk None rows r unit path h at_unit at_path = absurd h
came_to walk (Some place) rows r unit path h at_unit at_path =
    let same : (unit, path) ≡ place = λ i. (at_unit i, at_path i) in
    h ∙ ap (λ (p : Place). (p, r) ∷ rows_above (Some place) rows) (sym same)

-- ---- units

abbrev pub charge_units : List Text → ℕ
charge_units units = sum_by (λ unit. 3 + unit_bytes unit) units

abbrev pub AllKeys : List Text → Type 0
AllKeys units = AllByRecursion (IsKey New) units

-- Some of the units are written behind what a buffer held, and the rest is left.
pub record UnitsLeft (units rest : List Text) (start now : List ℕ) (room room_now : ℕ) : Type 0 where
  pub written : now ++ units_bytes rest ≡ start ++ units_bytes units
  pub left : AllKeys rest
  pub fits : length now + charge_units rest ≡ length start + charge_units units
  pub capacity : room ≤ room_now

module _ (units rest next : List Text) (u : Text) (start now : List ℕ) (room room_now : ℕ) (so_far : UnitsLeft units rest start now room room_now) (is : rest ≡ u ∷ next) where
  pub unit_written : (new : List ℕ) (room_new : ℕ) → new ≡ now ++ spelling New (Persist u) → room_now ≤ room_new → UnitsLeft units next start new room room_new
  unit_written new room_new written grown = record {
    written = ap (λ (xs : List ℕ). xs ++ units_bytes next) written ∙ append_assoc now (spelling New (Persist u)) (units_bytes next) ∙ ap (λ (us : List Text). now ++ units_bytes us) (sym is) ∙ so_far.written;
    left = (subst AllKeys is so_far.left).1;
    fits =
        let bytes : length new ≡ length now + length (spelling New (Persist u)) = ap length written ∙ length-append now (spelling New (Persist u)) in
        let cost : charge_units rest ≡ (3 + unit_bytes u) + charge_units next = ap charge_units is ∙ sum_by-cons (λ (x : Text). 3 + unit_bytes x) u next in
        omega (arith, so_far.fits, bytes, cost, persist_len u);
    capacity = omega (arith, so_far.capacity, grown);
  }

  pub unit_next : IsKey New u
  unit_next = (subst AllKeys is so_far.left).0

  pub unit_room : length start + charge_units units ≤ room → length now + (3 + unit_bytes u) ≤ room_now
  unit_room le =
      let cost : charge_units rest ≡ (3 + unit_bytes u) + charge_units next = ap charge_units is ∙ sum_by-cons (λ (x : Text). 3 + unit_bytes x) u next in
      omega (arith, so_far.fits, cost, le, so_far.capacity)
