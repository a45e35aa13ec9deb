-- Sums over the rows, and whether a unit has a taken lock, after a file was changed.
use Rattle.std.proofs.Common.{◌≡◌, ℕ, ◌+◌, Bool, true, false, cond, not, ◌&&◌, ◌||◌, [], ◌∷◌, sum_by, Some, is_none, refl, sym, ap, ◌∙◌, arith}
use Rattle.std.proofs.lemmas.List.Sums.{sum_by-cons}
use Rattle.std.specs.FinMap.Entries.{find}
use Rattle.std.specs.List.{list_all}
use Rattle.std.specs.Ordering.{eq_by_cmp}
use Rattle.opfs_base.specs.Places.{Place, place_cmp}
use Rattle.opfs_base.specs.Texts.{Text, same_text}
use Rattle.opfs_machine.specs.declared.state.FileRow.{FileRow}
use Rattle.opfs_machine.specs.declared.state.Row.{Row as Line}
use Rattle.opfs_machine.specs.declared.state.Row.TheVariants as line
use Rattle.opfs_machine.specs.Rows.{Rows as Lines, change_at, changed_row, file_of, taken_lock}
use Rattle.opfs_machine.specs.Sums.{row_charge}
use Rattle.opfs_state_rows.specs.Standing.Sums.{where_unit}
use Rattle.opfs_state_rows.proofs.standing.Places.{same_place}

some_file : {f g : FileRow ℕ} → Some f ≡ Some g → f ≡ g
some_file h = cc

-- The row of a file that was found.
file_row : (r : Line ℕ) (f : FileRow ℕ) → file_of (Some r) ≡ Some f → r ≡ line.File f
file_row line.Directory f h = cc
file_row (line.File g) f h = ap line.File (some_file h)

module _ (place : Place) (change : FileRow ℕ → FileRow ℕ) (f : FileRow ℕ) where
  pub sum-changed : (p : Text → Bool) (w : Line ℕ → ℕ) (rows : Lines ℕ) → file_of (find place_cmp place rows) ≡ Some f
      → sum_by (where_unit p w) (change_at place change rows) + cond (p place.0) (w (line.File f)) 0 ≡ sum_by (where_unit p w) rows + cond (p place.0) (w (line.File (change f))) 0
  sum-changed p w [] found = cc
  sum-changed p w (e ∷ es) found =
      let g = where_unit p w in
      let old = sum_by-cons g e es in
      elim (eq_by_cmp place_cmp place e.0) as (λ b. eq_by_cmp place_cmp place e.0 ≡ b → file_of (cond b (Some e.1) (find place_cmp place es)) ≡ Some f
      → sum_by g (elim b as (λ y. Lines ℕ) [ true ↦ (e.0, changed_row change e.1) ∷ es | false ↦ e ∷ change_at place change es ]) + cond (p place.0) (w (line.File f)) 0
      ≡ sum_by g (e ∷ es) + cond (p place.0) (w (line.File (change f))) 0) [
        | true ↦ λ is here.
            let at : place ≡ e.0 = same_place place e.0 is in
            let row : e.1 ≡ line.File f = file_row e.1 f here in
            let was : g e ≡ cond (p place.0) (w (line.File f)) 0 = λ i. cond (p (sym at i).0) (w (row i)) 0 in
            let now : g (e.0, changed_row change e.1) ≡ cond (p place.0) (w (line.File (change f))) 0 = λ i. cond (p (sym at i).0) (w (changed_row change (row i))) 0 in
            let whole = sum_by-cons g (e.0, changed_row change e.1) es in
            omega (arith, whole, old, was, now)
        | false ↦ λ is here. let whole = sum_by-cons g e (change_at place change es) in let rest = sum-changed p w es here in omega (arith, whole, old, rest)
      ] refl found

module _ (place : Place) (change : FileRow ℕ → FileRow ℕ) where
  charge-row : (e : Place × Line ℕ) → row_charge (e.0, changed_row change e.1) ≡ row_charge e
  charge-row (q, line.Directory) = refl
  charge-row (q, line.File f) = refl

  pub charge-changed : (rows : Lines ℕ) → sum_by row_charge (change_at place change rows) ≡ sum_by row_charge rows
  charge-changed [] = refl
  charge-changed (e ∷ es) =
      let old = sum_by-cons row_charge e es in
      elim (eq_by_cmp place_cmp place e.0) as (λ b. sum_by row_charge (elim b as (λ y. Lines ℕ) [ true ↦ (e.0, changed_row change e.1) ∷ es | false ↦ e ∷ change_at place change es ]) ≡ sum_by row_charge (e ∷ es)) [
        | true ↦ let whole = sum_by-cons row_charge (e.0, changed_row change e.1) es in let same = charge-row e in omega (arith, whole, old, same)
        | false ↦ let whole = sum_by-cons row_charge e (change_at place change es) in let rest = charge-changed es in omega (arith, whole, old, rest)
      ]

  -- Locks of another unit.
  pub taken-changed : (u : Text) → same_text u place.0 ≡ false → (rows : Lines ℕ)
      → list_all (λ (e : Place × Line ℕ). not (same_text u e.0.0) || is_none (taken_lock e.1)) (change_at place change rows) ≡ list_all (λ (e : Place × Line ℕ). not (same_text u e.0.0) || is_none (taken_lock e.1)) rows
  taken-changed u apart [] = refl
  taken-changed u apart (e ∷ es) =
      let free = λ (x : Place × Line ℕ). not (same_text u x.0.0) || is_none (taken_lock x.1) in
      elim (eq_by_cmp place_cmp place e.0) as (λ b. eq_by_cmp place_cmp place e.0 ≡ b → list_all free (elim b as (λ y. Lines ℕ) [ true ↦ (e.0, changed_row change e.1) ∷ es | false ↦ e ∷ change_at place change es ]) ≡ (free e && list_all free es)) [
        | true ↦ λ is.
            let other : same_text u e.0.0 ≡ false = ap (λ (q : Place). same_text u q.0) (sym (same_place place e.0 is)) ∙ apart in
            ap (λ t. (not t || is_none (taken_lock (changed_row change e.1))) && list_all free es) other ∙ sym (ap (λ t. (not t || is_none (taken_lock e.1)) && list_all free es) other)
        | false ↦ λ is. ap (λ t. free e && t) (taken-changed u apart es)
      ] refl
