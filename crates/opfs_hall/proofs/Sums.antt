-- Sums over a list that is read and written by position.
use Rattle.std.proofs.Common.{◌≡◌, ◌≢◌, ℕ, zero, suc, ◌+◌, ◌≤◌, List, [], ◌∷◌, ◌++◌, set, sym, refl, ap, subst, ⊎_elim, arith, Bool, cond, eq-eqb, ne_eqb}
use Rattle.std.specs.Prelude.{sum_by, nat_eq}
use Rattle.std.proofs.lemmas.List.Sums.{sum_by-cons, sum_by-append}
use mathlib.Core.Option.{some, some-injective, some-ne-none}
use mathlib.Core.Logic.{dite}
use native.Mathlib.Decide.{ℕ_discrete}
use lib.ListN.{get_elem?}
use Rattle.atomic_table.proofs.Lists.{at_set}

-- a test of a number, as it is counted
pub counts_same : (j k : ℕ) → j ≡ k → cond {A = ℕ} (nat_eq j k) 1 0 ≡ 1
counts_same j k is = ap (λ (b : Bool). cond {A = ℕ} b 1 0) (eq-eqb j k is)

pub counts_other : (j k : ℕ) → j ≢ k → cond {A = ℕ} (nat_eq j k) 1 0 ≡ 0
counts_other j k other = ap (λ (b : Bool). cond {A = ℕ} b 1 0) (ne_eqb j k other)

-- what holds of each other element, and of the new one, holds of each after a write
pub each_set : {A : Type 0} (P : A → Type 0) (l : List A) (i : ℕ) (w : A) → P w → ((j : ℕ) (a : A) → j ≢ i → get_elem? l j ≡ some a → P a)
    → (j : ℕ) (a : A) → get_elem? (set l i w) j ≡ some a → P a
each_set P l i w mine others j a at = ⊎_elim (λ t. subst P t.1 mine) (λ t. others j a t.0 t.1) (at_set l i j w a at)

module _ {A : Type 0} (f : A → ℕ) where
  pub sum_by-set_at : (l : List A) (i : ℕ) (a b : A) → get_elem? l i ≡ some a → sum_by f (set l i b) + f a ≡ sum_by f l + f b
  sum_by-set_at [] i a b at = absurd (some-ne-none a (sym at))
  sum_by-set_at (x ∷ xs) zero a b at = let same : f x ≡ f a = ap f (some-injective x a at) in omega (arith, sum_by-cons f x xs, sum_by-cons f b xs)
  sum_by-set_at (x ∷ xs) (suc i) a b at = omega (arith, sum_by-cons f x xs, sum_by-cons f x (set xs i b), sum_by-set_at xs i a b at)

  pub sum_by-snoc : (l : List A) (a : A) → sum_by f (l ++ a ∷ []) ≡ sum_by f l + f a
  sum_by-snoc l a = omega (arith, sum_by-append f l (a ∷ []), sum_by-cons f a [])

  pub at_most_all : (l : List A) (i : ℕ) (a : A) → get_elem? l i ≡ some a → f a ≤ sum_by f l
  at_most_all [] i a at = absurd (some-ne-none a (sym at))
  at_most_all (x ∷ xs) zero a at = let same : f x ≡ f a = ap f (some-injective x a at) in omega (arith, sum_by-cons f x xs)
  at_most_all (x ∷ xs) (suc i) a at = omega (arith, sum_by-cons f x xs, at_most_all xs i a at)

  pub two_at_most_all : (l : List A) (i j : ℕ) (a b : A) → j ≢ i → get_elem? l i ≡ some a → get_elem? l j ≡ some b → f a + f b ≤ sum_by f l
  two_at_most_all [] i j a b other at at' = absurd (some-ne-none a (sym at))
  two_at_most_all (x ∷ xs) zero zero a b other at at' = absurd (other refl)
  two_at_most_all (x ∷ xs) zero (suc j) a b other at at' = let same : f x ≡ f a = ap f (some-injective x a at) in omega (arith, sum_by-cons f x xs, at_most_all xs j b at')
  two_at_most_all (x ∷ xs) (suc i) zero a b other at at' = let same : f x ≡ f b = ap f (some-injective x b at') in omega (arith, sum_by-cons f x xs, at_most_all xs i a at)
  two_at_most_all (x ∷ xs) (suc i) (suc j) a b other at at' = omega (arith, sum_by-cons f x xs, two_at_most_all xs i j a b (λ e. other (ap suc e)) at at')

  pub sum_by-none : (l : List A) → ((i : ℕ) (a : A) → get_elem? l i ≡ some a → f a ≡ 0) → sum_by f l ≡ 0
  sum_by-none [] none = refl
  sum_by-none (x ∷ xs) none = omega (arith, sum_by-cons f x xs, none 0 x refl, sum_by-none xs (λ i. none (suc i)))

  pub sum_by_at_most : (g : A → ℕ) (l : List A) → ((i : ℕ) (a : A) → get_elem? l i ≡ some a → f a ≤ g a) → sum_by f l ≤ sum_by g l
  sum_by_at_most g [] less = omega arith
  sum_by_at_most g (x ∷ xs) less = omega (arith, sum_by-cons f x xs, sum_by-cons g x xs, less 0 x refl, sum_by_at_most g xs (λ i. less (suc i)))

  -- a sum that is not 0 has a term that is not 0
  pub some_term : (l : List A) → sum_by f l ≢ 0 → (i : ℕ) × (a : A) × (get_elem? l i ≡ some a) × (f a ≢ 0)
  some_term [] not_none = absurd (not_none refl)
  some_term (x ∷ xs) not_none = dite (ℕ_discrete (f x) 0)
      (λ none. let t = some_term xs (λ rest. not_none (omega (arith, sum_by-cons f x xs))) in (suc t.0, t.1, t.2, t.3))
      (λ here. (0, x, refl, here))
