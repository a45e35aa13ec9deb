-- A list that is changed item by item.
use Rattle.std.proofs.Common.{◌≡◌, ℕ, zero, suc, ◌<◌, List, [], ◌∷◌, ◌++◌, map, length, take, drop, get_or, slice_set, ap, subst, ◌∙◌, arith}

module _ {X : Type 0} (f : X → X) (d x : X) where
  raised : (i : ℕ) (old : List X) → i < length (map f (take i old) ++ drop i old) → x ≡ f (get_or (map f (take i old) ++ drop i old) i d)
      → slice_set (map f (take i old) ++ drop i old) i x ≡ map f (take (suc i) old) ++ drop (suc i) old
  raised zero [] lt new = absurd (omega (arith, lt))
  raised (suc i) [] lt new = absurd (omega (arith, lt))
  raised zero (o ∷ old) lt new = ap (λ y. y ∷ old) new
  raised (suc i) (o ∷ old) lt new = ap (λ ys. f o ∷ ys) (raised i old (omega (arith, lt)) new)

  pub raised_more : (i : ℕ) (old now : List X) → i < length now → x ≡ f (get_or now i d) → now ≡ map f (take i old) ++ drop i old
      → slice_set now i x ≡ map f (take (suc i) old) ++ drop (suc i) old
  raised_more i old now lt new so_far =
      ap (λ ys. slice_set ys i x) so_far
      ∙ raised i old (subst (λ (ys : List X). i < length ys) so_far lt) (new ∙ ap (λ ys. f (get_or ys i d)) so_far)

  lowered : (i : ℕ) (now : List X) → i < length now → get_or now i d ≡ f x
      → map f (take i now) ++ drop i now ≡ map f (take (suc i) (slice_set now i x)) ++ drop (suc i) (slice_set now i x)
  lowered i [] lt new = absurd (omega (arith, lt))
  lowered zero (y ∷ now) lt new = ap (λ z. z ∷ now) new
  lowered (suc i) (y ∷ now) lt new = ap (λ ys. f y ∷ ys) (lowered i now (omega (arith, lt)) new)

  pub lowered_more : (i : ℕ) (start now : List X) → i < length now → get_or now i d ≡ f x → start ≡ map f (take i now) ++ drop i now
      → start ≡ map f (take (suc i) (slice_set now i x)) ++ drop (suc i) (slice_set now i x)
  lowered_more i start now lt new so_far = so_far ∙ lowered i now lt new
