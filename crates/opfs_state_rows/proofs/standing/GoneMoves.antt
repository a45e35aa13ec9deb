-- What stands at a place and below it is taken out: its unit alone moves.
use Rattle.std.proofs.Common.{◌≡◌, ℕ, ◌+◌, Bool, true, false, cond, not, ◌&&◌, ◌||◌, [], ◌∷◌, map, filter, sum_by, Option, None, is_some, is_none, refl, sym, ap, ◌∙◌, arith}
use Rattle.std.proofs.lemmas.List.Sums.{sum_by-cons}
use Rattle.std.specs.FinMap.Entries.{find-where_key}
use Rattle.std.specs.List.{list_all}
use Rattle.opfs_base.specs.Places.{Place, place_cmp, is_within, begins_with}
use Rattle.opfs_base.specs.Texts.{Text, same_text}
use Rattle.opfs_machine.specs.declared.state.Row.{Row as Line}
use Rattle.opfs_machine.specs.Contents.{in_lengths}
use Rattle.opfs_machine.specs.Rows as machine
use Rattle.opfs_machine.specs.Rows.{row_at, without, taken_lock}
use Rattle.opfs_machine.specs.Sums as machine_sums
use Rattle.opfs_machine.specs.Victims.{none_taken}
use Rattle.opfs_shed.specs.Buckets.{Buckets}
use Rattle.opfs_tree.specs.declared.row.Row.{Row}
use Rattle.opfs_tree.specs.declared.row.Row.TheVariants as row
use Rattle.opfs_tree.specs.Rows as tree
use Rattle.opfs_tree.specs.Sums as tree_sums
use Rattle.opfs_tree.proofs.Closed.{exact_places}
use Rattle.opfs_register.specs.Registers.{Registered}
use Rattle.opfs_state_rows.specs.Standing.Seen.{Machine, line_of, lines_of, machine_of}
use Rattle.opfs_state_rows.specs.Standing.Sums.{where_unit, clearable}
use Rattle.opfs_state_rows.specs.Standing.Moves.{Amounts, Moves}
use Rattle.opfs_state_rows.proofs.standing.Units.{same_unit, apart_back}

both_first : (a b : Bool) → (a && b) ≡ true → a ≡ true
both_first true b h = refl
both_first false b h = cc

true_false : true ≡ false → ⊥
true_false h = cc

module _ (place : Place) where
  abbrev inside : Place × Row → Bool
  inside e = is_within place e.0

  -- What is within a place is of its unit.
  unit_within : (q : Place) → is_within place q ≡ true → q.0 ≡ place.0
  unit_within q h = sym (same_unit place.0 q.0 (both_first (same_text place.0 q.0) (begins_with place.1 q.1) h))

  pub lines-without : (rows : tree.Rows) → lines_of (tree.without place rows) ≡ filter (λ (e : Place × Line ℕ). not (is_within place e.0)) (lines_of rows)
  lines-without [] = refl
  lines-without (e ∷ es) =
      elim (is_within place e.0) as (λ t. lines_of (cond (not t) (e ∷ tree.without place es) (tree.without place es)) ≡ cond (not t) ((e.0, line_of e.1) ∷ filter (λ (x : Place × Line ℕ). not (is_within place x.0)) (lines_of es)) (filter (λ (x : Place × Line ℕ). not (is_within place x.0)) (lines_of es))) [
        | true ↦ lines-without es
        | false ↦ ap (λ xs. (e.0, line_of e.1) ∷ xs) (lines-without es)
      ]

  sum-split : (p : Text → Bool) (w : Line ℕ → ℕ) (g : Row → ℕ) → ((r : Row) → w (line_of r) ≡ g r) → (rows : tree.Rows)
      → sum_by (where_unit p w) (lines_of (tree.without place rows)) + cond (p place.0) (sum_by g (tree.rows_within place rows)) 0 ≡ sum_by (where_unit p w) (lines_of rows)
  sum-split p w g same [] = elim (p place.0) as (λ t. ◌≡◌ {A = ℕ} (0 + cond t 0 0) 0) [ true ↦ refl | false ↦ refl ]
  sum-split p w g same (e ∷ es) =
      let f = where_unit p w in
      let rest = sum-split p w g same es in
      let whole = sum_by-cons f (e.0, line_of e.1) (lines_of es) in
      elim (is_within place e.0) as (λ t. is_within place e.0 ≡ t → sum_by f (lines_of (cond (not t) (e ∷ tree.without place es) (tree.without place es)))
      + cond (p place.0) (sum_by g (map (λ x. x.1) (cond t (e ∷ filter inside es) (filter inside es)))) 0 ≡ sum_by f (lines_of (e ∷ es))) [
        | true ↦ λ is.
            let here : f (e.0, line_of e.1) ≡ cond (p place.0) (g e.1) 0 = ap (λ u. cond (p u) (w (line_of e.1)) 0) (unit_within e.0 is) ∙ ap (λ n. cond (p place.0) n 0) (same e.1) in
            let more : cond (p place.0) (sum_by g (e.1 ∷ tree.rows_within place es)) 0 ≡ cond (p place.0) (g e.1) 0 + cond (p place.0) (sum_by g (tree.rows_within place es)) 0 =
            ap (λ n. cond (p place.0) n 0) (sum_by-cons g e.1 (tree.rows_within place es)) ∙ split_cond (p place.0) (g e.1) (sum_by g (tree.rows_within place es)) in
            omega (arith, rest, whole, here, more)
        | false ↦ λ is.
            ap (λ n. n + cond (p place.0) (sum_by g (tree.rows_within place es)) 0) (sum_by-cons f (e.0, line_of e.1) (lines_of (tree.without place es))) ∙ (omega (arith, rest) ∙ sym whole)
      ] refl
    where
      split_cond : (t : Bool) (a b : ℕ) → cond t (a + b) 0 ≡ cond t a 0 + cond t b 0
      split_cond true a b = refl
      split_cond false a b = refl

  charge-same : (e : Place × Row) → machine_sums.row_charge (e.0, line_of e.1) ≡ tree_sums.row_charge e
  charge-same (q, row.Dir) = refl
  charge-same (q, row.File f) = refl

  charge-split : (rows : tree.Rows) → sum_by machine_sums.row_charge (lines_of (tree.without place rows)) + sum_by tree_sums.row_charge (tree_sums.entries_within place rows) ≡ sum_by machine_sums.row_charge (lines_of rows)
  charge-split [] = refl
  charge-split (e ∷ es) =
      let f = machine_sums.row_charge {F = ℕ} in
      let rest = charge-split es in
      let whole = sum_by-cons f (e.0, line_of e.1) (lines_of es) in
      elim (is_within place e.0) as (λ t. sum_by f (lines_of (cond (not t) (e ∷ tree.without place es) (tree.without place es))) + sum_by tree_sums.row_charge (cond t (e ∷ filter inside es) (filter inside es)) ≡ sum_by f (lines_of (e ∷ es))) [
        | true ↦ let more = sum_by-cons tree_sums.row_charge e (filter inside es) in let here = charge-same e in omega (arith, rest, whole, more, here)
        | false ↦ ap (λ n. n + sum_by tree_sums.row_charge (filter inside es)) (sum_by-cons f (e.0, line_of e.1) (lines_of (tree.without place es))) ∙ (omega (arith, rest) ∙ sym whole)
      ]

  -- Locks of another unit.
  taken-kept : (u : Text) → same_text u place.0 ≡ false → (rows : machine.Rows ℕ)
      → list_all (λ (e : Place × Line ℕ). not (same_text u e.0.0) || is_none (taken_lock e.1)) (filter (λ (e : Place × Line ℕ). not (is_within place e.0)) rows) ≡ list_all (λ (e : Place × Line ℕ). not (same_text u e.0.0) || is_none (taken_lock e.1)) rows
  taken-kept u apart [] = refl
  taken-kept u apart (e ∷ es) =
      let free = λ (x : Place × Line ℕ). not (same_text u x.0.0) || is_none (taken_lock x.1) in
      let kept = filter (λ (x : Place × Line ℕ). not (is_within place x.0)) es in
      elim (is_within place e.0) as (λ t. is_within place e.0 ≡ t → list_all free (cond (not t) (e ∷ kept) kept) ≡ (free e && list_all free es)) [
        | true ↦ λ is.
            let other : same_text u e.0.0 ≡ false = ap (same_text u) (unit_within e.0 is) ∙ apart in
            taken-kept u apart es ∙ sym (ap (λ t. (not t || is_none (taken_lock e.1)) && list_all free es) other)
        | false ↦ λ is. ap (λ t. free e && t) (taken-kept u apart es)
      ] refl

  row-gone : (m : Machine) (q : Place) → row_at (without m place) q ≡ cond (not (is_within place q)) (row_at m q) None
  row-gone m q = find-where_key place_cmp (λ x. not (is_within place x)) q (λ x e. ap (λ y. not (is_within place y)) (sym (exact_places q x e))) m.rows

  outside : (u : Text) → same_text place.0 u ≡ false → is_within place (u, []) ≡ false
  outside u apart = ap (λ t. t && begins_with place.1 []) apart

  kept_there : (t : Bool) (o : Option (Line ℕ)) → is_some (cond (not t) o None) ≡ true → is_some o ≡ true
  kept_there true o h = cc
  kept_there false o h = h

  module _ (rows : tree.Rows) (buckets : Buckets) (rest : Registered) where
    abbrev pub gone : Amounts
    gone = record {
      usage = sum_by tree.present_blocks (tree.rows_within place rows);
      blocks = sum_by tree.durable_blocks (tree.rows_within place rows);
      charge = sum_by tree_sums.row_charge (tree_sums.entries_within place rows);
    }

    abbrev pub nothing : Amounts
    nothing = record { usage = 0; blocks = 0; charge = 0 }

    present_same : (r : Row) → machine_sums.present_blocks in_lengths (line_of r) ≡ tree.present_blocks r
    present_same row.Dir = refl
    present_same (row.File f) = refl

    durable_same : (r : Row) → machine_sums.durable_blocks in_lengths (line_of r) ≡ tree.durable_blocks r
    durable_same row.Dir = refl
    durable_same (row.File f) = refl

    zero_cond : (t : Bool) → ◌≡◌ {A = ℕ} (cond t 0 0) 0
    zero_cond true = refl
    zero_cond false = refl

    pub gone-machine : machine_of (tree.without place rows) buckets rest ≡ without (machine_of rows buckets rest) place
    gone-machine = ap (λ (ls : machine.Rows ℕ). record (machine_of rows buckets rest) { rows = ls }) (lines-without rows)

    pub gone-moves : Moves (machine_of rows buckets rest) (machine_of (tree.without place rows) buckets rest) place.0 gone nothing
    gone-moves = record {
      limits = refl;
      known = λ q there.
          record {
            known = λ none.
                let back : is_some (row_at (without (machine_of rows buckets rest) place) q) ≡ true = ap (λ (x : Machine). is_some (row_at x q)) (sym gone-machine) ∙ there in
                absurd (true_false (sym (kept_there (is_within place q) (row_at (machine_of rows buckets rest) q) (ap is_some (sym (row-gone (machine_of rows buckets rest) q)) ∙ back)) ∙ none));
          };
      usage = λ p. omega (arith, sum-split p (machine_sums.present_blocks in_lengths) tree.present_blocks present_same rows, zero_cond (p place.0));
      blocks = λ p. omega (arith, sum-split p (machine_sums.durable_blocks in_lengths) tree.durable_blocks durable_same rows, zero_cond (p place.0));
      clear = λ u apart.
          let m = machine_of rows buckets rest in
          ap (λ (x : Machine). clearable x u) gone-machine
          ∙ (ap (λ t. is_some t && not (machine_sums.is_persistent m u) && none_taken (without m place) u) (row-gone m (u, []) ∙ ap (λ t. cond (not t) (row_at m (u, [])) None) (outside u apart))
          ∙ ap (λ t. is_some (row_at m (u, [])) && not (machine_sums.is_persistent m u) && t) (taken-kept u (apart_back place.0 u apart) m.rows));
      charge = omega (arith, charge-split rows);
    }
