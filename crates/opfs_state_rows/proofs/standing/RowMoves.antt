-- A row that is made where none is moves its unit alone.
use Rattle.std.proofs.Common.{◌≡◌, ℕ, ◌+◌, Bool, true, false, cond, not, ◌&&◌, ◌||◌, [], ◌∷◌, sum_by, Some, None, is_some, is_none, refl, sym, ap, ◌∙◌, arith}
use Rattle.std.proofs.lemmas.List.Sums.{sum_by-cons}
use Rattle.std.specs.FinMap.Entries.{find, put, by_order, find-put}
use Rattle.std.specs.List.{list_all}
use Rattle.std.specs.Ordering.{is_eq, eq_by_cmp}
use Rattle.std.specs.declared.cmp.Ordering.TheVariants.{Less, Equal, Greater}
use Rattle.opfs_base.specs.Places.{Place, place_cmp}
use Rattle.opfs_base.specs.Texts.{same_text}
use Rattle.opfs_machine.specs.declared.state.Row.{Row as Line}
use Rattle.opfs_machine.specs.Contents.{in_lengths}
use Rattle.opfs_machine.specs.Rows.{Rows as Lines}
use Rattle.opfs_machine.specs.Rows.{row_at, with_row, taken_lock}
use Rattle.opfs_machine.specs.Sums.{durable_blocks, present_blocks, row_charge, is_persistent}
use Rattle.opfs_machine.specs.Victims.{none_taken}
use Rattle.opfs_tree.specs.declared.row.Row.{Row}
use Rattle.opfs_tree.specs.Rows as tree
use Rattle.opfs_tree.proofs.Orders.{place_total}
use Rattle.opfs_state_rows.specs.Standing.Seen.{Machine, line_of, lines_of}
use Rattle.opfs_state_rows.specs.Standing.Sums.{where_unit}
use Rattle.opfs_state_rows.specs.Standing.Moves.{Amounts, Moves}
use Rattle.opfs_state_rows.proofs.standing.Places.{same_place, place_apart}
use Rattle.opfs_state_rows.proofs.standing.Units.{unit_itself, apart_back}

some_none : {X : Type 0} (x : X) → Some x ≡ None → ⊥
some_none x h = cc

true_false : true ≡ false → ⊥
true_false h = cc

pub lines-put : (place : Place) (r : Row) (rows : tree.Rows) → lines_of (put place_cmp place r rows) ≡ put place_cmp place (line_of r) (lines_of rows)
lines-put place r [] = refl
lines-put place r (e ∷ es) =
    elim (place_cmp place e.0) as (λ o. lines_of (by_order o ((place, r) ∷ e ∷ es) ((e.0, r) ∷ es) (e ∷ put place_cmp place r es))
    ≡ by_order o ((place, line_of r) ∷ (e.0, line_of e.1) ∷ lines_of es) ((e.0, line_of r) ∷ lines_of es) ((e.0, line_of e.1) ∷ put place_cmp place (line_of r) (lines_of es))) [
      | Less ↦ refl
      | Equal ↦ refl
      | Greater ↦ ap (λ xs. (e.0, line_of e.1) ∷ xs) (lines-put place r es)
    ]

module _ (place : Place) (r : Line ℕ) where
  sum-put : (g : Place × Line ℕ → ℕ) (rows : Lines ℕ) → find place_cmp place rows ≡ None → sum_by g (put place_cmp place r rows) ≡ sum_by g rows + g (place, r)
  sum-put g [] free = sum_by-cons g (place, r) [] ∙ omega arith
  sum-put g (e ∷ es) free =
      elim (place_cmp place e.0) as (λ o. cond (is_eq o) (Some e.1) (find place_cmp place es) ≡ None
      → sum_by g (by_order o ((place, r) ∷ e ∷ es) ((e.0, r) ∷ es) (e ∷ put place_cmp place r es)) ≡ sum_by g (e ∷ es) + g (place, r)) [
        | Less ↦ λ n. let whole = sum_by-cons g (place, r) (e ∷ es) in omega (arith, whole)
        | Equal ↦ λ n. absurd (some_none e.1 n)
        | Greater ↦ λ n. let whole = sum_by-cons g e (put place_cmp place r es) in let old = sum_by-cons g e es in let rest = sum-put g es n in omega (arith, whole, old, rest)
      ] free

  all-put : (test : Place × Line ℕ → Bool) → test (place, r) ≡ true → (rows : Lines ℕ) → find place_cmp place rows ≡ None → list_all test (put place_cmp place r rows) ≡ list_all test rows
  all-put test here [] free = ap (λ t. t && true) here
  all-put test here (e ∷ es) free =
      elim (place_cmp place e.0) as (λ o. cond (is_eq o) (Some e.1) (find place_cmp place es) ≡ None
      → list_all test (by_order o ((place, r) ∷ e ∷ es) ((e.0, r) ∷ es) (e ∷ put place_cmp place r es)) ≡ (test e && list_all test es)) [
        | Less ↦ λ n. ap (λ t. t && (test e && list_all test es)) here
        | Equal ↦ λ n. absurd (some_none e.1 n)
        | Greater ↦ λ n. ap (λ t. test e && t) (all-put test here es n)
      ] free

  -- What a row counts as.
  abbrev pub comes : Amounts
  comes = record { usage = present_blocks in_lengths r; blocks = durable_blocks in_lengths r; charge = row_charge (place, r) }

  abbrev pub nothing_left : Amounts
  nothing_left = record { usage = 0; blocks = 0; charge = 0 }

  zero_cond : (t : Bool) → ◌≡◌ {A = ℕ} (cond t 0 0) 0
  zero_cond true = refl
  zero_cond false = refl

  row-now : (m : Machine) (q : Place) → row_at (with_row m place r) q ≡ cond (eq_by_cmp place_cmp q place) (Some r) (row_at m q)
  row-now m q = find-put place_cmp place_total q place r m.rows

  pub row-moves : (m : Machine) → row_at m place ≡ None → Moves m (with_row m place r) place.0 nothing_left comes
  row-moves m free = record {
    limits = refl;
    known = λ q there.
        record {
          known = λ none.
              elim (eq_by_cmp place_cmp q place) as (λ t. eq_by_cmp place_cmp q place ≡ t → q.0 ≡ place.0) [
                | true ↦ λ is. ap (λ (x : Place). x.0) (same_place q place is)
                | false ↦ λ is.
                    let was : is_some (row_at m q) ≡ true = ap is_some (sym (row-now m q ∙ ap (λ t. cond t (Some r) (row_at m q)) is)) ∙ there in
                    absurd (true_false (sym was ∙ none))
              ] refl;
        };
    usage = λ p. omega (arith, sum-put (where_unit p (present_blocks in_lengths)) m.rows free, zero_cond (p place.0));
    blocks = λ p. omega (arith, sum-put (where_unit p (durable_blocks in_lengths)) m.rows free, zero_cond (p place.0));
    clear = λ u apart.
        let other : eq_by_cmp place_cmp (u, []) place ≡ false = place_apart (u, []) place (λ same. true_false (sym (unit_itself place.0 u (sym (ap (λ (x : Place). x.0) same))) ∙ apart)) in
        let free_here : (not (same_text u place.0) || is_none (taken_lock r)) ≡ true = ap (λ t. not t || is_none (taken_lock r)) (apart_back place.0 u apart) in
        ap (λ t. is_some t && not (is_persistent m u) && none_taken (with_row m place r) u) (row-now m (u, []) ∙ ap (λ t. cond t (Some r) (row_at m (u, []))) other)
        ∙ ap (λ t. is_some (row_at m (u, [])) && not (is_persistent m u) && t) (all-put (λ (e : Place × Line ℕ). not (same_text u e.0.0) || is_none (taken_lock e.1)) free_here m.rows free);
    charge = omega (arith, sum-put row_charge m.rows free);
  }
