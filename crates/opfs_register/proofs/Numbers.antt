-- Numbers that rise, and where one stands among them.
use Rattle.std.proofs.Common.{◌≡◌, ℕ, zero, suc, ◌+◌, ◌<◌, ◌≤◌, ◌==◌, true, false, cond, List, [], ◌∷◌, length, Some, None, Result, Ok, Err, option_map, refl, sym, ap, ◌∙◌, get_or, arith}
use Rattle.std.proofs.Math.Nat.{lt_of_not-le}
use Rattle.std.specs.Prelude.{MatchResult}
use Rattle.std.specs.Result.{result_ok}
use Rattle.opfs_register.specs.Slots.{place_in, Rises}

pub differs : (m n : ℕ) → (m ≡ n → ⊥) → (m == n) ≡ false
differs m n apart = grind (arith, apart)

pub ties : (m n : ℕ) → m ≡ n → (m == n) ≡ true
ties m n same = rw same (grind arith)

pub at_least : (ns : List ℕ) (from below i : ℕ) → Rises from ns below → i < length ns → from ≤ get_or ns i 0
at_least [] from below i h lt = absurd (omega (arith, lt))
at_least (m ∷ ms) from below zero h lt = h.0
at_least (m ∷ ms) from below (suc i) h lt = omega (arith, h.0, at_least ms (m + 1) below i h.1 (omega (arith, lt)))

pub at_most : (ns : List ℕ) (from below i : ℕ) → Rises from ns below → i < length ns → get_or ns i 0 < below
at_most [] from below i h lt = absurd (omega (arith, lt))
at_most (m ∷ ms) from below zero h lt = omega (arith, end_above ms (m + 1) below h.1)
  where
    end_above : (ns : List ℕ) (from below : ℕ) → Rises from ns below → from ≤ below
    end_above [] from below h = h
    end_above (m ∷ ms) from below h = omega (arith, h.0, end_above ms (m + 1) below h.1)
at_most (m ∷ ms) from below (suc i) h lt = at_most ms (m + 1) below i h.1 (omega (arith, lt))

pub in_order : (ns : List ℕ) (from below i j : ℕ) → Rises from ns below → i ≤ j → j < length ns → get_or ns i 0 ≤ get_or ns j 0
in_order [] from below i j h le lt = absurd (omega (arith, lt))
in_order (m ∷ ms) from below zero zero h le lt = omega arith
in_order (m ∷ ms) from below zero (suc j) h le lt = omega (arith, at_least ms (m + 1) below j h.1 (omega (arith, lt)))
in_order (m ∷ ms) from below (suc i) zero h le lt = absurd (omega (arith, le))
in_order (m ∷ ms) from below (suc i) (suc j) h le lt = in_order ms (m + 1) below i j h.1 (omega (arith, le)) (omega (arith, lt))

-- Where a number was found.
pub place-found : (ns : List ℕ) (from below i n : ℕ) → Rises from ns below → i < length ns → get_or ns i 0 ≡ n → place_in ns n ≡ Some i
place-found [] from below i n h lt is = absurd (omega (arith, lt))
place-found (m ∷ ms) from below zero n h lt is = ap (λ t. cond t (Some 0) (option_map suc (place_in ms n))) (ties m n is)
place-found (m ∷ ms) from below (suc i) n h lt is =
    ap (λ t. cond t (Some 0) (option_map suc (place_in ms n))) (differs m n (λ same. omega (arith, same, is, at_least ms (m + 1) below i h.1 (omega (arith, lt)))))
    ∙ ap (option_map suc) (place-found ms (m + 1) below i n h.1 (omega (arith, lt)) is)

-- Where none was found.
pub place-missing : (ns : List ℕ) (n : ℕ) → ((k : ℕ) → k < length ns → get_or ns k 0 ≡ n → ⊥) → place_in ns n ≡ None
place-missing [] n apart = refl
place-missing (m ∷ ms) n apart =
    ap (λ t. cond t (Some 0) (option_map suc (place_in ms n))) (differs m n (apart 0 (omega arith)))
    ∙ ap (option_map suc) (place-missing ms n (λ k lt. apart (suc k) (omega (arith, lt))))

pub place-searched : (ns : List ℕ) (below n : ℕ) (r : Result ℕ ℕ) → Rises 0 ns below
    → MatchResult r (λ i. (i < length ns) × (get_or ns i 0 ≡ n)) (λ i. (i ≤ length ns) × ((k : ℕ) → k < i → get_or ns k 0 < n) × ((k : ℕ) → i ≤ k → k < length ns → n < get_or ns k 0))
    → result_ok r ≡ place_in ns n
place-searched ns below n (Ok i) h found = sym (place-found ns 0 below i n h found.0 found.1)
place-searched ns below n (Err i) h found =
    sym (place-missing ns n (λ k lt same.
    let before : k < i = lt_of_not-le (λ le. omega (arith, same, found.2 k le lt)) in
    omega (arith, same, found.1 k before)))
