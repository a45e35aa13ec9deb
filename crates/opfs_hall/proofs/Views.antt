-- What the rule says of two views, and of the sums over all.
use Rattle.std.proofs.Common.{◌≡◌, ◌≢◌, ◌⊎◌, ℕ, zero, suc, ◌+◌, ◌%◌, ◌^◌, ◌<◌, ◌≤◌, Bool, true, false, cond, List, [], ◌∷◌, sym, refl, ap, ◌∙◌, subst, ⊎_elim, inl, inr, arith, lt_of_not-le}
use Rattle.std.specs.Prelude.{All, Option, Some, None, IfSome, IsSome, unwrap_or, sum_by}
use mathlib.Core.Option.{some, none, some-injective}
use mathlib.Core.Option as maybe
use mathlib.Core.Logic.{dite}
use native.Mathlib.Decide.{ℕ_discrete}
use lib.ListN.{get_elem?}
use Rattle.atomic_table.specs.Table.{State}
use Rattle.atomic_table.proofs.Lists.{one_turn}
use Rattle.opfs_hall.specs.declared.board.View.{View}
use Rattle.opfs_hall.specs.Turns.{one_at, one_if_some, has_ticket, has_number, is_in, ticket_is, names, Home, Kept}
use Rattle.opfs_hall.proofs.Sums.{counts_same, counts_other, at_most_all, two_at_most_all, sum_by-none, sum_by_at_most}
use Rattle.opfs_hall.proofs.Owned.{not_named}

-- the first slot, and the value in it
abbrev pub first_home : {X : Type 0} → List (maybe.Option (Option X)) → maybe.Option (Option X)
first_home [] = none
first_home (home ∷ homes) = home

abbrev pub home_or : {X : Type 0} → X → List (maybe.Option (Option X)) → X
home_or d [] = d
home_or d (maybe.none ∷ homes) = d
home_or d (maybe.some slot ∷ homes) = unwrap_or slot d

-- a word goes on to the next number modulo 2^64
pub modulo : (n : ℕ) → (n % 2 ^ 64 + 1) % 2 ^ 64 ≡ (n + 1) % 2 ^ 64
modulo n = omega arith

pub bool_cases : (b : Bool) → (b ≡ true) ⊎ (b ≡ false)
bool_cases true = inl refl
bool_cases false = inr refl

-- a fact that the value, if there is one, has
module _ {T : Type 0} where
  pub IfSome_at : (o : Option T) (P : T → Type 0) (x : T) → o ≡ Some x → IfSome o P → P x
  IfSome_at o P x is h = subst (λ z. IfSome z P) is h

  pub IfSome_none : (o : Option T) (P : T → Type 0) → o ≡ None → IfSome o P
  IfSome_none o P is = subst (λ z. IfSome z P) (sym is) tt

  pub IfSome_all : (o : Option T) (P : T → Type 0) → ((x : T) → o ≡ Some x → P x) → IfSome o P
  IfSome_all None P h = tt
  IfSome_all (Some x) P h = h x refl

  pub IfSome_with : (o : Option T) (P Q : T → Type 0) → ((x : T) → o ≡ Some x → P x → Q x) → IfSome o P → IfSome o Q
  IfSome_with None P Q h p = tt
  IfSome_with (Some x) P Q h p = h x refl p

  pub IsSome_value : (o : Option T) → IsSome o → (x : T) × (o ≡ Some x)
  IsSome_value None h = absurd cc
  IsSome_value (Some x) h = (x, refl)

pub same_value : (o : Option ℕ) (j k : ℕ) → o ≡ Some j → o ≡ Some k → j ≡ k
same_value o j k p q = ap (λ (z : Option ℕ). unwrap_or z 0) (sym p ∙ q)

-- numbers that are counted
pub one_at-same : (o : Option ℕ) (k : ℕ) → o ≡ Some k → one_at k o ≡ 1
one_at-same o k is = ap (one_at k) is ∙ counts_same k k refl

pub one_at-other : (o : Option ℕ) (j k : ℕ) → o ≡ Some j → j ≢ k → one_at k o ≡ 0
one_at-other o j k is other = ap (one_at k) is ∙ counts_other j k other

pub one_at_most : (k j : ℕ) → one_at k (Some j) ≤ 1
one_at_most k j = dite (ℕ_discrete j k) (λ same. omega (arith, counts_same j k same)) (λ other. omega (arith, counts_other j k other))

pub one_if_some-is : (o : Option ℕ) → IsSome o → one_if_some o ≡ 1
one_if_some-is None h = absurd cc
one_if_some-is (Some x) h = refl

pub IfSome_zero : (o : Option ℕ) (P : ℕ → Type 0) → one_if_some o ≡ 0 → IfSome o P
IfSome_zero None P zero_is = tt
IfSome_zero (Some x) P zero_is = absurd (omega arith)

ticket_needs_number : (ticket number : Option ℕ) (P Q : ℕ → Type 0) → IfSome ticket (λ t. P t × Q t × IsSome number) → one_if_some ticket ≤ one_if_some number
ticket_needs_number None number P Q h = omega arith
ticket_needs_number (Some t) number P Q h = omega (arith, one_if_some-is number h.2)

-- the value of a view's flag, as it is counted
pub is_in-of : {X O E : Type 0} (v : View O E X) (b : Bool) → v.inside ≡ b → is_in v ≡ cond b 1 0
is_in-of v b is = ap (λ (x : Bool). cond {A = ℕ} x 1 0) is

module _ {X O E : Type 0} (opening : X → O) (entries : X → List E) where
  -- at most one is in
  pub home_one : (begun : O) (log : List E) (inside : ℕ) (homes : List (maybe.Option (Option X))) → Home opening entries begun log inside homes → inside ≤ 1
  home_one begun log zero homes h = omega arith
  home_one begun log (suc zero) homes h = omega arith
  home_one begun log (suc (suc inside)) homes h = absurd h

  module _ (owner : E → ℕ) (goes : X → X → Type 0) (most : ℕ) (begun : O) (s : State (Option X) (View O E X)) (kept : Kept opening entries owner goes most begun s) where
    -- who has a ticket has a number
    pub in_line : kept.drawn ≤ kept.served + 65
    in_line = let fewer = sum_by_at_most has_ticket has_number s.views (λ j v at. ticket_needs_number v.ticket v.number (λ t. kept.served ≤ t) (λ t. t < kept.drawn) (kept.each j v at).waits) in
        omega (arith, fewer, kept.line, kept.seated, kept.few, kept.small)

    -- no ticket from `drawn` on is out
    pub not_drawn : (t : ℕ) → kept.drawn ≤ t → sum_by (ticket_is t) s.views ≡ 0
    not_drawn t late = sum_by-none (ticket_is t) s.views (λ j v at. earlier v.ticket (λ u. IsSome v.number) (kept.each j v at).waits) where
      earlier : (o : Option ℕ) (P : ℕ → Type 0) → IfSome o (λ u. (kept.served ≤ u) × (u < kept.drawn) × P u) → one_at t o ≡ 0
      earlier None P h = refl
      earlier (Some u) P h = let early = h.1 in counts_other u t (λ e. absurd (omega arith))

    module _ (id : ℕ) (v : View O E X) (at : get_elem? s.views id ≡ some v) where
      -- the ticket that the word shows is the one that is served
      pub served_is : (t : ℕ) → v.ticket ≡ Some t → kept.served % 2 ^ 64 ≡ t % 2 ^ 64 → kept.served ≡ t
      served_is t has e = let h = IfSome_at v.ticket (λ u. (kept.served ≤ u) × (u < kept.drawn) × IsSome v.number) t has (kept.each id v at).waits in
          one_turn kept.served t (2 ^ 64) h.0 (omega (arith, h.1, in_line)) e

      -- another view does not have the same ticket
      pub other_ticket : (t j : ℕ) (u : View O E X) → j ≢ id → get_elem? s.views j ≡ some u → v.ticket ≡ Some t → u.ticket ≡ Some t → ⊥
      other_ticket t j u other at' has has' =
          omega (arith, two_at_most_all (ticket_is t) s.views id j v u other at at', kept.one_each t, one_at-same v.ticket t has, one_at-same u.ticket t has')

      same_view : (j : ℕ) (u : View O E X) → j ≡ id → get_elem? s.views j ≡ some u → v ≡ u
      same_view j u same at' = some-injective v u (sym at ∙ (ap (get_elem? s.views) (sym same) ∙ at'))

      -- where no other view is in, and this is not, none is
      pub nobody_in : v.inside ≡ false → ((j : ℕ) (u : View O E X) → j ≢ id → get_elem? s.views j ≡ some u → u.inside ≡ true → ⊥) → sum_by is_in s.views ≡ 0
      nobody_in out others = sum_by-none is_in s.views (λ j u at'. dite (ℕ_discrete j id)
          (λ same. is_in-of u false (ap (λ (x : View O E X). x.inside) (sym (same_view j u same at')) ∙ out))
          (λ other. ⊎_elim (λ inside. absurd (others j u other at' inside)) (is_in-of u false) (bool_cases u.inside)))

      pub one_in : v.inside ≡ true → sum_by is_in s.views ≡ 1
      one_in inside = omega (arith, home_one begun kept.log (sum_by is_in s.views) s.homes kept.home, at_most_all is_in s.views id v at, is_in-of v true inside)

      pub others_out : (j : ℕ) (u : View O E X) → j ≢ id → get_elem? s.views j ≡ some u → v.inside ≡ true → u.inside ≡ true → ⊥
      others_out j u other at' inside inside' =
          omega (arith, two_at_most_all is_in s.views id j v u other at at', one_in inside, is_in-of v true inside, is_in-of u true inside')

      -- the number of a view's pass is drawn, and no one else names it
      pub number_drawn : (k : ℕ) → v.number ≡ Some k → k < kept.n
      number_drawn k has = lt_of_not-le (λ late. absurd (omega (arith, kept.below k late, at_most_all (names k) s.views id v at, one_at-same v.number k has)))

      pub ended_without : (k : ℕ) → v.number ≡ Some k → All (λ p. p.0 ≢ k) v.ended
      ended_without k has = not_named k v.ended (omega (arith, at_most_all (names k) s.views id v at, kept.once k, one_at-same v.number k has))

      pub named_once : (k j : ℕ) (u : View O E X) → j ≢ id → get_elem? s.views j ≡ some u → v.number ≡ Some k → names k u ≡ 0
      named_once k j u other at' has = omega (arith, two_at_most_all (names k) s.views id j v u other at at', kept.once k, one_at-same v.number k has)
