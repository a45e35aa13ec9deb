-- Counts over joined lists.
use Rattle.std.proofs.Common.{◌≡◌, ℕ, ◌+◌, Bool, true, false, cond, All, List, [], ◌∷◌, ◌++◌, length, filter, refl, sym, ap, ◌∙◌, arith}
use Rattle.std.specs.List.{count_by}
use Rattle.std.proofs.lemmas.List.{length-append}
use Rattle.std.proofs.lemmas.List.Elements.{All-head, All-tail, filter-append}
use Rattle.std.proofs.lemmas.List.Sums.{length-filter}

abbrev pub one_if : Bool → ℕ
one_if t = cond t 1 0

module _ {X : Type 0} (p : X → Bool) where
  pub count-append : (xs ys : List X) → count_by p (xs ++ ys) ≡ count_by p xs + count_by p ys
  count-append xs ys =
      sym (length-filter p (xs ++ ys)) ∙ ap length (filter-append p xs ys) ∙ length-append (filter p xs) (filter p ys) ∙ (λ i. length-filter p xs i + length-filter p ys i)

  pub count-one : (x : X) → count_by p (x ∷ []) ≡ one_if (p x)
  count-one x = let n = one_if (p x) in omega arith

  one-by : (t : Bool) → t ≡ false → one_if t ≡ 0
  one-by true h = absurd cc
  one-by false h = refl

  pub count-none : (xs : List X) → All (λ x. p x ≡ false) xs → count_by p xs ≡ 0
  count-none [] all = refl
  count-none (x ∷ xs) all =
      omega (arith, count-append (x ∷ []) xs, count-one x, one-by (p x) (All-head (λ y. p y ≡ false) x xs all), count-none xs (All-tail (λ y. p y ≡ false) x xs all))
