-- Sums over the rows.
use Rattle.std.proofs.Common.{◌≡◌, ℕ, ◌+◌, ◌≤◌, Bool, true, false, cond, not, List, [], ◌∷◌, filter, length, sum_by, Option, Some, None, option_map, refl, sym, ap, ◌∙◌, arith}
use Rattle.opfs_laws.proofs.Spots.{same_place}
use Rattle.std.proofs.lemmas.List.Sums.{sum_by-cons}
use Rattle.std.specs.FinMap.Entries.{put, find, by_order}
use Rattle.std.specs.Ordering.{is_eq, eq_by_cmp}
use Rattle.std.specs.declared.cmp.Ordering.TheVariants.{Less, Equal, Greater}
use Rattle.opfs_base.specs.Blocks.{blocks}
use Rattle.opfs_base.specs.Places.{Place, place_cmp}
use Rattle.opfs_base.specs.Texts.{Text}
use Rattle.opfs_machine.specs.declared.state.FileRow.{FileRow}
use Rattle.opfs_machine.specs.declared.state.Row.{Row}
use Rattle.opfs_machine.specs.declared.state.Row.TheVariants as row
use Rattle.opfs_machine.specs.Contents.{in_bytes}
use Rattle.opfs_machine.specs.Rows.{Rows, change_at, changed_row, file_of}
use Rattle.opfs_machine.specs.Sums.{durable_blocks, row_charge}

module _ {X : Type 0} (g : X → ℕ) where
  pub sum-less : (p : X → Bool) (xs : List X) → sum_by g (filter p xs) ≤ sum_by g xs
  sum-less p [] = omega arith
  sum-less p (x ∷ xs) =
      let rest = sum-less p xs in
      let whole = sum_by-cons g x xs in
      elim (p x) as (λ b. sum_by g (cond b (x ∷ filter p xs) (filter p xs)) ≤ sum_by g (x ∷ xs)) [
        | true ↦ let part = sum_by-cons g x (filter p xs) in omega (arith, rest, whole, part)
        | false ↦ omega (arith, rest, whole)
      ]

module _ {F : Type 0} (g : Place × Row F → ℕ) where
  pub sum-put : (p : Place) (r : Row F) (rows : Rows F) → find place_cmp p rows ≡ None → sum_by g (put place_cmp p r rows) ≡ sum_by g rows + g (p, r)
  sum-put p r [] free = sum_by-cons g (p, r) [] ∙ omega arith
  sum-put p r (e ∷ es) free =
      elim (place_cmp p e.0) as (λ o. cond (is_eq o) (Some e.1) (find place_cmp p es) ≡ None
      → sum_by g (by_order o ((p, r) ∷ e ∷ es) ((e.0, r) ∷ es) (e ∷ put place_cmp p r es)) ≡ sum_by g (e ∷ es) + g (p, r)) [
        | Less ↦ λ n. let whole = sum_by-cons g (p, r) (e ∷ es) in omega (arith, whole)
        | Equal ↦ λ n. absurd (some_none n)
        | Greater ↦ λ n. let whole = sum_by-cons g e (put place_cmp p r es) in let old = sum_by-cons g e es in let rest = sum-put p r es n in omega (arith, whole, old, rest)
      ] free
    where
      some_none : Some e.1 ≡ None → ⊥
      some_none h = cc

-- What a weight gives of the row at a place; nothing where none is there.
abbrev pub weight_at : {F : Type 0} → (Place × Row F → ℕ) → Place → Option (Row F) → ℕ
weight_at g p None = 0
weight_at g p (Some r) = g (p, r)

module _ {F : Type 0} (g : Place × Row F → ℕ) (p : Place) (change : FileRow F → FileRow F) where
  weight-here : (e : Place × Row F) (r : Row F) → eq_by_cmp place_cmp p e.0 ≡ true → g (e.0, r) ≡ g (p, r)
  weight-here e r is = ap (λ (q : Place). g (q, r)) (sym (same_place p e.0 is))

  -- A file that is changed, in a sum of any weight.
  pub sum-changed : (rows : Rows F)
      → sum_by g (change_at p change rows) + weight_at g p (find place_cmp p rows) ≡ sum_by g rows + weight_at g p (option_map (changed_row change) (find place_cmp p rows))
  sum-changed [] = refl
  sum-changed (e ∷ es) =
      let old = sum_by-cons g e es in
      elim (eq_by_cmp place_cmp p e.0) as (λ b. eq_by_cmp place_cmp p e.0 ≡ b →
      sum_by g (elim b as (λ y. Rows F) [ true ↦ (e.0, changed_row change e.1) ∷ es | false ↦ e ∷ change_at p change es ]) + weight_at g p (cond b (Some e.1) (find place_cmp p es))
      ≡ sum_by g (e ∷ es) + weight_at g p (option_map (changed_row change) (cond b (Some e.1) (find place_cmp p es)))) [
        | true ↦ λ is.
            let whole = sum_by-cons g (e.0, changed_row change e.1) es in
            let was = weight-here e e.1 is in
            let now = weight-here e (changed_row change e.1) is in
            omega (arith, whole, old, was, now)
        | false ↦ λ is. let whole = sum_by-cons g e (change_at p change es) in let rest = sum-changed es in omega (arith, whole, old, rest)
      ] refl

module _ {F : Type 0} (g : Place × Row F → ℕ) where
  -- A sum of the rows that pass a test and of those that do not.
  pub sum-split : (test : Place × Row F → Bool) (rows : Rows F) → sum_by g (filter test rows) + sum_by g (filter (λ e. not (test e)) rows) ≡ sum_by g rows
  sum-split test [] = refl
  sum-split test (e ∷ es) =
      let rest = sum-split test es in
      let whole = sum_by-cons g e es in
      elim (test e) as (λ b. sum_by g (cond b (e ∷ filter test es) (filter test es)) + sum_by g (cond (not b) (e ∷ filter (λ x. not (test x)) es) (filter (λ x. not (test x)) es)) ≡ sum_by g (e ∷ es)) [
        | true ↦ let part = sum_by-cons g e (filter test es) in omega (arith, rest, whole, part)
        | false ↦ let part = sum_by-cons g e (filter (λ x. not (test x)) es) in omega (arith, rest, whole, part)
      ]

  -- Weights that are the same of each row.
  pub sum-alike : (h : Place × Row F → ℕ) → ((e : Place × Row F) → g e ≡ h e) → (rows : Rows F) → sum_by g rows ≡ sum_by h rows
  sum-alike h same [] = refl
  sum-alike h same (e ∷ es) = sum_by-cons g e es ∙ (λ i. same e i + sum-alike h same es i) ∙ sym (sum_by-cons h e es)

  -- A sum over the rows that pass a test, as a sum over all rows.
  pub sum-filter : (test : Place × Row F → Bool) (rows : Rows F) → sum_by g (filter test rows) ≡ sum_by (λ e. cond (test e) (g e) 0) rows
  sum-filter test [] = refl
  sum-filter test (e ∷ es) =
      let rest = sum-filter test es in
      let whole = sum_by-cons (λ x. cond (test x) (g x) 0) e es in
      elim (test e) as (λ b. sum_by (λ x. cond (test x) (g x) 0) (e ∷ es) ≡ cond b (g e) 0 + sum_by (λ x. cond (test x) (g x) 0) es → sum_by g (cond b (e ∷ filter test es) (filter test es)) ≡ sum_by (λ x. cond (test x) (g x) 0) (e ∷ es)) [
        | true ↦ λ w. let part = sum_by-cons g e (filter test es) in omega (arith, rest, w, part)
        | false ↦ λ w. omega (arith, rest, w)
      ] whole

abbrev pub stored_in : Option (FileRow Text) → ℕ
stored_in None = 0
stored_in (Some f) = blocks (length f.durable)

abbrev pub row_stored : Place × Row Text → ℕ
row_stored e = durable_blocks in_bytes e.1

stored-row : (e : Place × Row Text) → row_stored e ≡ stored_in (file_of (Some e.1))
stored-row (p, row.Directory) = refl
stored-row (p, row.File f) = refl

stored-changed : (change : FileRow Text → FileRow Text) (e : Place × Row Text) → row_stored (e.0, changed_row change e.1) ≡ stored_in (option_map change (file_of (Some e.1)))
stored-changed change (p, row.Directory) = refl
stored-changed change (p, row.File f) = refl

module _ (p : Place) (change : FileRow Text → FileRow Text) where
  pub sum-change : (rows : Rows Text)
      → sum_by row_stored (change_at p change rows) + stored_in (file_of (find place_cmp p rows)) ≡ sum_by row_stored rows + stored_in (option_map change (file_of (find place_cmp p rows)))
  sum-change [] = refl
  sum-change (e ∷ es) =
      let old = sum_by-cons row_stored e es in
      elim (eq_by_cmp place_cmp p e.0) as (λ b.
      sum_by row_stored (elim b as (λ y. Rows Text) [ true ↦ (e.0, changed_row change e.1) ∷ es | false ↦ e ∷ change_at p change es ]) + stored_in (file_of (cond b (Some e.1) (find place_cmp p es)))
      ≡ sum_by row_stored (e ∷ es) + stored_in (option_map change (file_of (cond b (Some e.1) (find place_cmp p es))))) [
        | true ↦
            let whole = sum_by-cons row_stored (e.0, changed_row change e.1) es in
            let was = stored-row e in
            let now = stored-changed change e in
            omega (arith, whole, old, was, now)
        | false ↦ let whole = sum_by-cons row_stored e (change_at p change es) in let rest = sum-change es in omega (arith, whole, old, rest)
      ]

module _ {F : Type 0} (p : Place) (change : FileRow F → FileRow F) where
  charge-row : (e : Place × Row F) → row_charge (e.0, changed_row change e.1) ≡ row_charge e
  charge-row (q, row.Directory) = refl
  charge-row (q, row.File f) = refl

  pub charge-change : (rows : Rows F) → sum_by row_charge (change_at p change rows) ≡ sum_by row_charge rows
  charge-change [] = refl
  charge-change (e ∷ es) =
      let old = sum_by-cons row_charge e es in
      elim (is_eq (place_cmp p e.0)) as (λ b.
      sum_by row_charge (elim b as (λ y. Rows F) [ true ↦ (e.0, changed_row change e.1) ∷ es | false ↦ e ∷ change_at p change es ]) ≡ sum_by row_charge (e ∷ es)) [
        | true ↦ let whole = sum_by-cons row_charge (e.0, changed_row change e.1) es in let same = charge-row e in omega (arith, whole, old, same)
        | false ↦ let whole = sum_by-cons row_charge e (change_at p change es) in let rest = charge-change es in omega (arith, whole, old, rest)
      ]
