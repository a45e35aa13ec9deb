-- Whether units are cleared, and whether all together are enough, does not depend on when they were used.
use Rattle.std.proofs.Common.{◌≡◌, ◌≤◌, ◌+◌, ◌*◌, ℕ, Bool, true, false, cond, not, ◌&&◌, ◌||◌, nat_le, List, [], ◌∷◌, map, fold, filter, flat_map, sum_by, Option, Some, None, option_map, refl, sym, ap, subst, ◌∙◌, arith}
use Rattle.std.proofs.lemmas.Bool.Decides.{nat_tests}
use Rattle.std.proofs.lemmas.List.Sums.{sum_by-cons}
use Rattle.std.specs.List.{list_any}
use Rattle.std.specs.Ordering.{nat_cmp, ordering_then}
use Rattle.std.specs.Cmp.Lexicographic.{slice_cmp}
use Rattle.std.specs.FinMap.{slice_cmp-IsAntisymmetric, nat_cmp-IsAntisymmetric}
use Rattle.std.specs.FinMap.Entries.{by_order}
use Rattle.std.specs.declared.cmp.Ordering.{Ordering}
use Rattle.std.specs.declared.cmp.Ordering.TheVariants.{Less, Equal, Greater}
use Rattle.opfs_base.specs.Places.{Place, is_within}
use Rattle.opfs_base.specs.Measures.{mode_charge, block_charge}
use Rattle.opfs_base.specs.Texts.{Text, same_text}
use Rattle.opfs_base.specs.Units.{origin_of}
use Rattle.opfs_machine.specs.declared.own.Own.{Own}
use Rattle.opfs_machine.specs.declared.state.Agent.{Agent}
use Rattle.opfs_machine.specs.declared.state.Row.{Row}
use Rattle.opfs_machine.specs.declared.state.State.{State}
use Rattle.opfs_machine.specs.Agents.{last_use}
use Rattle.opfs_machine.specs.Contents.{in_bytes}
use Rattle.opfs_machine.specs.Ordered.{insert_by}
use Rattle.opfs_machine.specs.Rows.{Rows}
use Rattle.opfs_machine.specs.Sums.{pool, charge, fits_pool, durable_blocks, reserve_of, row_charge, all_own}
use Rattle.opfs_machine.specs.Victims.{root_units, is_callers, is_candidate, none_taken, use_cmp, candidates, cleared, shortest_front, victims}

-- ---- members

then-equal : (a b : Ordering) → ordering_then a b ≡ Equal → b ≡ Equal
then-equal Equal b h = h
then-equal Less b h = absurd (cc)
then-equal Greater b h = absurd (cc)

use-equal : (a b : ℕ × Text) → use_cmp a b ≡ Equal → a.1 ≡ b.1
use-equal a b h = slice_cmp-IsAntisymmetric nat_cmp-IsAntisymmetric a.1 b.1 (then-equal (nat_cmp a.0 b.0) (slice_cmp nat_cmp a.1 b.1) h)

or-same : (a b : Bool) → (a || (a || b)) ≡ (a || b)
or-same true b = refl
or-same false b = refl

or-swap : (a b c : Bool) → (a || (b || c)) ≡ (b || (a || c))
or-swap true true c = refl
or-swap true false c = refl
or-swap false b c = refl

module _ (p : Text → Bool) where
  abbrev has : List (ℕ × Text) → Bool
  has xs = list_any (λ e. p e.1) xs

  has-insert : (x : ℕ × Text) (xs : List (ℕ × Text)) → has (insert_by use_cmp x xs) ≡ (p x.1 || has xs)
  has-insert x [] = refl
  has-insert x (y ∷ ys) =
      let more = has-insert x ys in
      elim (use_cmp x y) as (λ o. use_cmp x y ≡ o → has (by_order o (x ∷ y ∷ ys) (y ∷ ys) (y ∷ insert_by use_cmp x ys)) ≡ (p x.1 || has (y ∷ ys))) [
        | Less ↦ λ is. refl
        | Equal ↦ λ is.
            let same : p x.1 ≡ p y.1 = ap p (use-equal x y is) in
            sym (or-same (p y.1) (has ys)) ∙ sym (ap (λ b. b || (p y.1 || has ys)) same)
        | Greater ↦ λ is. ap (λ b. p y.1 || b) more ∙ or-swap (p y.1) (p x.1) (has ys)
      ] refl

  has-fold : (last : Text → ℕ) (units : List Text) (xs : List (ℕ × Text)) → has (fold (λ sorted unit. insert_by use_cmp (last unit, unit) sorted) xs units) ≡ (has xs || list_any p units)
  has-fold last [] xs = or-none (has xs)
    where
      or-none : (b : Bool) → b ≡ (b || false)
      or-none true = refl
      or-none false = refl
  has-fold last (unit ∷ units) xs =
      has-fold last units (insert_by use_cmp (last unit, unit) xs)
      ∙ ap (λ b. b || list_any p units) (has-insert (last unit, unit) xs)
      ∙ move (p unit) (has xs) (list_any p units)
    where
      move : (a b c : Bool) → ((a || b) || c) ≡ (b || (a || c))
      move true true c = refl
      move true false c = refl
      move false b c = refl

  any-map : (xs : List (ℕ × Text)) → list_any p (map (λ e. e.1) xs) ≡ has xs
  any-map [] = refl
  any-map (x ∷ xs) = ap (λ b. p x.1 || b) (any-map xs)

  -- The candidates of a call are those units that may be.
  pub has-candidate : (s : State Text Own) (caller : Option Text) → list_any p (candidates s caller) ≡ list_any p (filter (is_candidate s caller) (root_units s))
  has-candidate s caller = any-map _ ∙ has-fold (λ unit. last_use s (origin_of unit)) (filter (is_candidate s caller) (root_units s)) []

-- ---- what is left when units are cleared

abbrev of_unit : Place × Row Text → Text → Bool
of_unit e unit = is_within (unit, []) e.0

abbrev spared : List Text → Place × Row Text → Bool
spared units e = not (list_any (of_unit e) units)

filter-all : (rows : Rows Text) → filter (λ e. true) rows ≡ rows
filter-all [] = refl
filter-all (e ∷ rows) = ap (λ xs. e ∷ xs) (filter-all rows)

kept-both : (a b : Bool) (e : Place × Row Text) (xs : Rows Text) (f : Place × Row Text → Bool) → f e ≡ not b
    → filter f (cond (not a) (e ∷ xs) xs) ≡ cond (not (a || b)) (e ∷ filter f xs) (filter f xs)
kept-both true b e xs f is = refl
kept-both false b e xs f is = ap (λ t. cond t (e ∷ filter f xs) (filter f xs)) is

filter-spared : (unit : Text) (units : List Text) (rows : Rows Text)
    → filter (spared units) (filter (λ e. not (is_within (unit, []) e.0)) rows) ≡ filter (spared (unit ∷ units)) rows
filter-spared unit units [] = refl
filter-spared unit units (e ∷ rows) =
    kept-both (of_unit e unit) (list_any (of_unit e) units) e (filter (λ e. not (is_within (unit, []) e.0)) rows) (spared units) refl
    ∙ ap (λ xs. cond (spared (unit ∷ units) e) (e ∷ xs) xs) (filter-spared unit units rows)

cleared-rows : (units : List Text) (s : State Text Own) → (fold cleared s units).rows ≡ filter (spared units) s.rows
cleared-rows [] s = sym (filter-all s.rows)
cleared-rows (unit ∷ units) s = cleared-rows units (cleared s unit) ∙ filter-spared unit units s.rows

cleared-agents : (units : List Text) (s : State Text Own) → (fold cleared s units).agents ≡ s.agents
cleared-agents [] s = refl
cleared-agents (unit ∷ units) s = cleared-agents units (cleared s unit)

cleared-limits : (units : List Text) (s : State Text Own) → (fold cleared s units).limits ≡ s.limits
cleared-limits [] s = refl
cleared-limits (unit ∷ units) s = cleared-limits units (cleared s unit)

-- ---- fronts

module _ (need : ℕ) where
  sum-kept : (f : Place × Row Text → ℕ) (keep : Place × Row Text → Bool) (rows : Rows Text) → sum_by f (filter keep rows) ≤ sum_by f rows
  sum-kept f keep [] = omega arith
  sum-kept f keep (e ∷ rows) =
      let rest = sum-kept f keep rows in
      let whole : sum_by f (e ∷ rows) ≡ f e + sum_by f rows = sum_by-cons f e rows in
      elim (keep e) as (λ b. sum_by f (cond b (e ∷ filter keep rows) (filter keep rows)) ≤ sum_by f (e ∷ rows)) [
        | true ↦ (let here : sum_by f (e ∷ filter keep rows) ≡ f e + sum_by f (filter keep rows) = sum_by-cons f e (filter keep rows) in omega (arith, rest, whole, here))
        | false ↦ omega (arith, rest, whole)
      ]

  fits-less : (a b n most : ℕ) → a ≤ b → (nat_le n 0 || nat_le (b + n) most) ≡ true → (nat_le n 0 || nat_le (a + n) most) ≡ true
  fits-less a b n most less h = grind (arith, nat_tests)

  cleared-fits : (s : State Text Own) (unit : Text) → fits_pool in_bytes s need ≡ true → fits_pool in_bytes (cleared s unit) need ≡ true
  cleared-fits s unit h =
      let rows = sum-kept (λ e. durable_blocks in_bytes e.1) (λ e. not (is_within (unit, []) e.0)) s.rows in
      fits-less (pool in_bytes (cleared s unit)) (pool in_bytes s) need s.limits.blocks (more rows) h
    where
      more : sum_by (λ e. durable_blocks in_bytes e.1) (cleared s unit).rows ≤ sum_by (λ e. durable_blocks in_bytes e.1) s.rows → pool in_bytes (cleared s unit) ≤ pool in_bytes s
      more h = omega (arith, h)

  all-fit : (units : List Text) (s : State Text Own) → fits_pool in_bytes s need ≡ true → fits_pool in_bytes (fold cleared s units) need ≡ true
  all-fit [] s h = h
  all-fit (unit ∷ units) s h = all-fit units (cleared s unit) (cleared-fits s unit h)

  abbrev front_by : Bool → Text → Option (List Text) → Option (List Text)
  front_by b unit rest = elim b [ true ↦ Some [] | false ↦ option_map (λ more. unit ∷ more) rest ]

  abbrev end_by : Bool → Option (List Text)
  end_by b = elim b [ true ↦ Some [] | false ↦ None ]

  none-there : (b : Bool) → ◌≡◌ {A = Option (List Text)} (end_by b) None → b ≡ false
  none-there true h = absurd (cc)
  none-there false h = refl

  some-there : (b : Bool) (units : List Text) → ◌≡◌ {A = Option (List Text)} (end_by b) (Some units) → b ≡ true
  some-there true units h = refl
  some-there false units h = absurd (cc)

  -- What a front tells of the units behind the first one.
  data FrontBy (b : Bool) (unit : Text) (rest : Option (List Text)) : Option (List Text) → Type 0 where
    fits : b ≡ true → FrontBy b unit rest (Some [])
    too_few : b ≡ false → rest ≡ None → FrontBy b unit rest None
    enough : (more : List Text) → b ≡ false → rest ≡ Some more → FrontBy b unit rest (Some (unit ∷ more))

  front-is : (b : Bool) (unit : Text) (rest : Option (List Text)) → FrontBy b unit rest (front_by b unit rest)
  front-is true unit rest = fits refl
  front-is false unit None = too_few refl refl
  front-is false unit (Some more) = enough more refl refl

  -- All together are not enough where there is no front, and are where there is one.
  pub none-enough : (units : List Text) (s : State Text Own) → shortest_front in_bytes s need units ≡ None → fits_pool in_bytes (fold cleared s units) need ≡ false
  none-enough [] s h = none-there (fits_pool in_bytes s need) h
  none-enough (unit ∷ units) s h =
      by-front (λ none. none-enough units (cleared s unit) none)
      (subst (FrontBy (fits_pool in_bytes s need) unit (shortest_front in_bytes (cleared s unit) need units)) h
      (front-is (fits_pool in_bytes s need) unit (shortest_front in_bytes (cleared s unit) need units)))
    where
      by-front : (shortest_front in_bytes (cleared s unit) need units ≡ None → fits_pool in_bytes (fold cleared (cleared s unit) units) need ≡ false)
          → FrontBy (fits_pool in_bytes s need) unit (shortest_front in_bytes (cleared s unit) need units) None → fits_pool in_bytes (fold cleared (cleared s unit) units) need ≡ false
      by-front again (too_few misfit none) = again none

  pub some-enough : (units found : List Text) (s : State Text Own) → shortest_front in_bytes s need units ≡ Some found → fits_pool in_bytes (fold cleared s units) need ≡ true
  some-enough [] found s h = some-there (fits_pool in_bytes s need) found h
  some-enough (unit ∷ units) found s h =
      by-front (λ more some. some-enough units more (cleared s unit) some)
      (shortest_front in_bytes s need (unit ∷ units)) (front-is (fits_pool in_bytes s need) unit (shortest_front in_bytes (cleared s unit) need units)) h
    where
      by-front : ((more : List Text) → shortest_front in_bytes (cleared s unit) need units ≡ Some more → fits_pool in_bytes (fold cleared (cleared s unit) units) need ≡ true)
          → (v : Option (List Text)) → FrontBy (fits_pool in_bytes s need) unit (shortest_front in_bytes (cleared s unit) need units) v → v ≡ Some found
          → fits_pool in_bytes (fold cleared (cleared s unit) units) need ≡ true
      by-front again _ (fits here) is = all-fit units (cleared s unit) (cleared-fits s unit here)
      by-front again _ (too_few misfit none) is = absurd (cc)
      by-front again _ (enough more misfit some) is = again more some

  -- No unit is cleared where the need fits, and only there.
  pub fits-empty : (units : List Text) (s : State Text Own) → fits_pool in_bytes s need ≡ true → shortest_front in_bytes s need units ≡ Some []
  fits-empty [] s h = ap end_by h
  fits-empty (unit ∷ units) s h = ap (λ b. front_by b unit (shortest_front in_bytes (cleared s unit) need units)) h

  pub empty-fits : (units : List Text) (s : State Text Own) → shortest_front in_bytes s need units ≡ Some [] → fits_pool in_bytes s need ≡ true
  empty-fits [] s h = some-there (fits_pool in_bytes s need) [] h
  empty-fits (unit ∷ units) s h =
      by-front (subst (FrontBy (fits_pool in_bytes s need) unit (shortest_front in_bytes (cleared s unit) need units)) h
      (front-is (fits_pool in_bytes s need) unit (shortest_front in_bytes (cleared s unit) need units)))
    where
      by-front : FrontBy (fits_pool in_bytes s need) unit (shortest_front in_bytes (cleared s unit) need units) (Some []) → fits_pool in_bytes s need ≡ true
      by-front (fits here) = here

-- ---- two states that differ in last uses alone

-- Two states with the same rows, modes, own rows and limits.
pub record SameRoom (s t : State Text Own) : Type 0 where
  pub rows : s.rows ≡ t.rows
  pub modes : s.persistent ≡ t.persistent
  pub own : all_own s ≡ all_own t
  pub limits : s.limits ≡ t.limits

module _ (s t : State Text Own) (r : SameRoom s t) where
  pub pool-same : pool in_bytes s ≡ pool in_bytes t
  pool-same = λ i. sum_by (λ e. durable_blocks in_bytes e.1) (r.rows i) + sum_by (λ x. reserve_of (in_bytes.outline x)) (r.own i)

  pub charge-same : charge in_bytes s ≡ charge in_bytes t
  charge-same = λ i. sum_by row_charge (r.rows i) + sum_by mode_charge (r.modes i) + block_charge * pool-same i

  pub fits-same : (need : ℕ) → fits_pool in_bytes s need ≡ fits_pool in_bytes t need
  fits-same need = λ i. nat_le need 0 || nat_le (pool-same i + need) (r.limits i).blocks

  candidates-same : (p : Text → Bool) (caller : Option Text) → list_any p (candidates s caller) ≡ list_any p (candidates t caller)
  candidates-same p caller =
      has-candidate p s caller
      ∙ (λ i. list_any p (filter (λ unit. not (list_any (same_text unit) (r.modes i)) && not (is_callers caller unit) && none_taken (record s { rows = r.rows i }) unit) (root_units (record s { rows = r.rows i }))))
      ∙ sym (has-candidate p t caller)

  left-same : (caller : Option Text) → (fold cleared s (candidates s caller)).rows ≡ (fold cleared t (candidates t caller)).rows
  left-same caller =
      cleared-rows (candidates s caller) s
      ∙ (λ i. filter (λ e. not (candidates-same (of_unit e) caller i)) (r.rows i))
      ∙ sym (cleared-rows (candidates t caller) t)

  cleared-fits-same : (caller : Option Text) (need : ℕ) → fits_pool in_bytes (fold cleared s (candidates s caller)) need ≡ fits_pool in_bytes (fold cleared t (candidates t caller)) need
  cleared-fits-same caller need =
      let us = candidates s caller in
      let vs = candidates t caller in
      let owns : all_own (fold cleared s us) ≡ all_own (fold cleared t vs) =
      ap (λ agents. flat_map (λ (a : Agent Own). a.own) agents) (cleared-agents us s) ∙ r.own ∙ sym (ap (λ agents. flat_map (λ (a : Agent Own). a.own) agents) (cleared-agents vs t)) in
      let limits = cleared-limits us s ∙ r.limits ∙ sym (cleared-limits vs t) in
      let rows = left-same caller in
      λ i. nat_le need 0 || nat_le ((sum_by (λ e. durable_blocks in_bytes e.1) (rows i) + sum_by (λ x. reserve_of (in_bytes.outline x)) (owns i)) + need) (limits i).blocks

  -- There are victims in both or in neither; and where none are needed in the one, so it is in the other.
  pub none-same : (caller : Option Text) (need : ℕ) → victims in_bytes s caller need ≡ None → victims in_bytes t caller need ≡ None
  none-same caller need none =
      by-found (victims in_bytes t caller need) refl
    where
      by-found : (v : Option (List Text)) → victims in_bytes t caller need ≡ v → v ≡ None
      by-found None is = refl
      by-found (Some found) is =
          absurd (no (sym (none-enough need (candidates s caller) s none) ∙ cleared-fits-same caller need ∙ some-enough need (candidates t caller) found t is))
        where
          no : false ≡ true → ⊥
          no h = cc

  pub some-same : (caller : Option Text) (need : ℕ) (found : List Text) → victims in_bytes s caller need ≡ Some found
      → (other : List Text) × (victims in_bytes t caller need ≡ Some other) × (found ≡ [] → other ≡ [])
  some-same caller need found is = by-found (victims in_bytes t caller need) refl
    where
      no : false ≡ true → ⊥
      no h = cc

      inside : (a b : List Text) → Some a ≡ Some b → a ≡ b
      inside a b h = cc

      by-found : (v : Option (List Text)) → victims in_bytes t caller need ≡ v → (other : List Text) × (victims in_bytes t caller need ≡ Some other) × (found ≡ [] → other ≡ [])
      by-found None none =
          absurd (no (sym (none-enough need (candidates t caller) t none) ∙ sym (cleared-fits-same caller need) ∙ some-enough need (candidates s caller) found s is))
      by-found (Some other) here = (
        other,
        here,
        λ empty.
            let fits = empty-fits need (candidates s caller) s (is ∙ ap Some empty) in
            inside other [] (sym here ∙ fits-empty need (candidates t caller) t (sym (fits-same need) ∙ fits)),
      )
