-- The rule at the start, and what it says at the end.
use Rattle.std.proofs.Common.{◌≡◌, ◌≢◌, ℕ, ◌<◌, ◌≤◌, false, zero, suc, List, [], ◌∷◌, map, sym, refl, ap, ◌∙◌, subst, arith}
use Rattle.std.specs.Prelude.{All, Contains, Option, Some, IfSome, IsSome, unwrap_or}
use mathlib.Core.Option.{some, some-injective, some-ne-none}
use mathlib.Core.Option as maybe
use mathlib.Core.Logic.{dite}
use native.Mathlib.Decide.{ℕ_discrete}
use lib.ListN.{get_elem?}
use Rattle.atomic_table.specs.Table.{State}
use Rattle.atomic_table.specs.Table as table
use Rattle.atomic_table.specs.declared.shared.Seat.{Seat}
use Rattle.opfs_hall.specs.declared.board.View.{View}
use Rattle.opfs_hall.specs.History.{HasEnded, IsPrefix, owned}
use Rattle.opfs_hall.specs.Turns.{one_at, names, first_view, Fits, Home, Kept, IsPlaceOf}
use Rattle.opfs_hall.specs.Seen.{PassSeen, HasAll}
use Rattle.opfs_hall.proofs.Sums.{two_at_most_all}
use Rattle.opfs_hall.proofs.Owned.{named, prefix_refl}
use Rattle.opfs_hall.proofs.Keeping.{fits_bare}
use Rattle.opfs_hall.proofs.Views.{home_or, IsSome_value, IfSome_at, IfSome_with, one_at-same, nobody_in, number_drawn}

module _ {X O E : Type 0} (opening : X → O) (entries : X → List E) (owner : E → ℕ) (goes : X → X → Type 0) (most : ℕ) where
  -- one value whose list is empty is at home, and one seat is there
  pub first_kept : (x : X) → most ≤ 64 → entries x ≡ []
      → Kept opening entries owner goes most (opening x) (table.opening (0 ∷ 0 ∷ 0 ∷ []) (Some x ∷ []) (first_view most (opening x) (entries x)))
  first_kept x small empty = record {
    served = 0;
    drawn = 0;
    n = 0;
    value = x;
    log = entries x;
    logged = refl;
    small = small;
    words = refl;
    few = omega arith;
    line = refl;
    seated = omega arith;
    single = omega arith;
    one_each = λ t. omega arith;
    once = λ k. omega arith;
    below = λ k late. refl;
    undrawn = λ k late real. ap (owned owner k) empty;
    home = (x, refl, refl, refl);
    there = λ y at. ap (home_or x) (sym at);
    each = only;
  } where
    only : (j : ℕ) (v : View O E X) → get_elem? (first_view most (opening x) (entries x) ∷ []) j ≡ some v → Fits owner goes most (opening x) 0 0 0 x (entries x) v
    only zero v at = subst (Fits owner goes most (opening x) 0 0 0 x (entries x)) (some-injective (first_view most (opening x) (entries x)) v at)
        (fits_bare (first_view most (opening x) (entries x)) (refl, refl) (prefix_refl (entries x)) tt refl)
    only (suc j) v at = absurd (some-ne-none v (sym at))

  module _ (begun : O) (s : State (Option X) (View O E X)) (kept : Kept opening entries owner goes most begun s) (id : ℕ) (v : View O E X)
      (at : get_elem? s.views id ≡ some v) (out : v.inside ≡ false) (k : ℕ) (number : v.number ≡ Some k)
      (all : (j : ℕ) → j ≤ most → j ≢ k → Contains (map (λ p. p.0) v.ended) j) where
    -- each other number is among the ended ones, so no other view has one
    alone : (j : ℕ) (u : View O E X) → j ≢ id → get_elem? s.views j ≡ some u → IsSome u.number → ⊥
    alone j u other at' has = let a = IsSome_value u.number has in
        let mine = at_most_all_names a.0 in
        let drawn = number_drawn opening entries owner goes most begun s kept j u at' a.0 a.1 in
        let both = two_at_most_all (names a.0) s.views id j v u other at at' in
        let theirs = one_at-same u.number a.0 a.1 in
        dite (ℕ_discrete a.0 k)
        (λ same. let too = one_at-same v.number a.0 (number ∙ ap (λ (z : ℕ). Some z) (sym same)) in omega (arith, kept.once a.0))
        (λ not_mine. let counted = named a.0 v.ended (all a.0 (omega (arith, kept.few)) not_mine) in omega (arith, kept.once a.0)) where
          at_most_all_names : (n : ℕ) → one_at n v.number ≤ names n v
          at_most_all_names n = omega arith

    -- the value is at home, and each pass that ended has its entries there
    pub closes : (x : X) × (s.homes ≡ some (Some x) ∷ []) × (opening x ≡ begun) × IsPrefix v.base (entries x) × All (HasEnded owner (entries x)) v.ended × IfSome v.last (λ y. goes y x)
    closes = let none_in = nobody_in opening entries owner goes most begun s kept id v at out (λ j u other at' inside. let fits = kept.each j u at' in
        alone j u other at' (IfSome_at u.ticket (λ t. (kept.served ≤ t) × (t < kept.drawn) × IsSome u.number) kept.served (fits.inside inside).0 fits.waits).2) in
        let home = subst (λ (inside : ℕ). Home opening entries begun kept.log inside s.homes) none_in kept.home in
        let fits = kept.each id v at in (
          home.0,
          home.1,
          home.2,
          subst (IsPrefix v.base) (sym home.3) fits.begins,
          (λ i d short. let p = fits.ended i d short in subst (λ (list : List E). HasEnded owner list _) (sym home.3) p.1),
          IfSome_with v.last (λ y. goes y kept.value) (λ y. goes y home.0) (λ y is h. subst (λ (z : X). goes y z) (sym (kept.there home.0 home.1)) h) fits.goes_on,
        )

-- what is found at the end, in the words of the pass that closes
module _ {X O E : Type 0} (opening : X → O) (entries : X → List E) (owner : E → ℕ) (goes : X → X → Type 0) (most : ℕ) (begun : O) where
  module _ (place : Seat (Option X) (View O E X)) (pass : PassSeen O E) (words : List ℕ) (slots : List (Option X)) (is : IsPlaceOf place pass) (idle : pass.busy ≡ false)
      (all : HasAll pass) (same : most ≡ pass.hall.agents) (final : table.Final (table.Seen (Kept opening entries owner goes most begun) place.id place.me.0) words slots) where
    value_there : (x : X) × (get_elem? slots 0 ≡ some (Some x)) × (opening x ≡ begun) × IsPrefix pass.base (entries x) × All (HasEnded owner (entries x)) pass.ended × IfSome place.me.0.last (λ y. goes y x)
    value_there =
        let others : (j : ℕ) → j ≤ most → j ≢ pass.agent → Contains (map (λ p. p.0) place.me.0.ended) j
        = λ j in_range other. subst (λ (ended : List (ℕ × List E)). Contains (map (λ p. p.0) ended) j) (sym is.ended) (all j (omega (arith, same)) other) in
        let end = closes opening entries owner goes most begun final.0 final.1.0 place.id place.me.0 final.1.1 (is.inside ∙ idle) pass.agent is.placed.number others in (
          end.0,
          final.4 0 (Some end.0) (ap (λ (homes : List (maybe.Option (Option X))). get_elem? homes 0) end.1),
          end.2,
          subst (λ (base : List E). IsPrefix base (entries end.0)) is.base end.3,
          subst (All (HasEnded owner (entries end.0))) is.ended end.4,
          end.5,
        )

    -- the slot has a value
    pub slot_is_some : (slot : Option X) → get_elem? slots 0 ≡ some slot → IsSome slot
    slot_is_some slot at = subst IsSome (some-injective _ _ (sym value_there.1 ∙ at)) refl

    -- and what it has
    pub closed_value : (result : X) → get_elem? slots 0 ≡ some (Some result) → (opening result ≡ begun) × IsPrefix pass.base (entries result) × All (HasEnded owner (entries result)) pass.ended × IfSome place.me.0.last (λ y. goes y result)
    closed_value result at = let found = value_there in
        let is : found.0 ≡ result = ap (λ (slot : Option X). unwrap_or slot found.0) (some-injective _ _ (sym found.1 ∙ at)) in
        subst (λ (x : X). (opening x ≡ begun) × IsPrefix pass.base (entries x) × All (HasEnded owner (entries x)) pass.ended × IfSome place.me.0.last (λ y. goes y x)) is (found.2, found.3, found.4, found.5)
