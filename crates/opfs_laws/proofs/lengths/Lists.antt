-- Lists whose items are put into another form.
use Rattle.std.proofs.Common.{◌≡◌, ℕ, ◌+◌, zero, suc, Bool, true, false, cond, ◌&&◌, ◌||◌, List, [], ◌∷◌, ◌++◌, map, filter, filter_map, sum_by, slice_set, Option, Some, refl, sym, ap, ◌∙◌}
use Rattle.std.proofs.lemmas.List.Sums.{sum_by-cons}
use Rattle.std.specs.Prelude.{slice_get}
use Rattle.std.specs.List.{list_any, list_all, enumerate_from, cons_option}

module _ {X Y : Type 0} (h : X → Y) where
  pub map-filter : (p : Y → Bool) (xs : List X) → filter p (map h xs) ≡ map h (filter (λ x. p (h x)) xs)
  map-filter p [] = refl
  map-filter p (x ∷ xs) =
      elim (p (h x)) as (λ b. cond b (h x ∷ filter p (map h xs)) (filter p (map h xs)) ≡ map h (cond b (x ∷ filter (λ x. p (h x)) xs) (filter (λ x. p (h x)) xs))) [
        | true ↦ ap (λ ys. h x ∷ ys) (map-filter p xs)
        | false ↦ map-filter p xs
      ]

  pub map-any : (p : Y → Bool) (xs : List X) → list_any p (map h xs) ≡ list_any (λ x. p (h x)) xs
  map-any p [] = refl
  map-any p (x ∷ xs) = ap (λ b. p (h x) || b) (map-any p xs)

  pub map-all : (p : Y → Bool) (q : X → Bool) → ((x : X) → p (h x) ≡ q x) → (xs : List X) → list_all p (map h xs) ≡ list_all q xs
  map-all p q same [] = refl
  map-all p q same (x ∷ xs) = λ i. same x i && map-all p q same xs i

  pub map-found : {Z : Type 0} (p : Y → Option Z) (xs : List X) → filter_map p (map h xs) ≡ filter_map (λ x. p (h x)) xs
  map-found p [] = refl
  map-found p (x ∷ xs) = ap (cons_option (p (h x))) (map-found p xs)

  pub map-sum : (p : Y → ℕ) (q : X → ℕ) → ((x : X) → p (h x) ≡ q x) → (xs : List X) → sum_by p (map h xs) ≡ sum_by q xs
  map-sum p q same [] = refl
  map-sum p q same (x ∷ xs) = sum_by-cons p (h x) (map h xs) ∙ (λ i. same x i + map-sum p q same xs i) ∙ sym (sum_by-cons q x xs)

  pub map-numbered : (n : ℕ) (xs : List X) → enumerate_from n (map h xs) ≡ map (λ e. (e.0, h e.1)) (enumerate_from n xs)
  map-numbered n [] = refl
  map-numbered n (x ∷ xs) = ap (λ ys. (n, h x) ∷ ys) (map-numbered (n + 1) xs)

  pub map-set : (xs : List X) (i : ℕ) (x : X) → slice_set (map h xs) i (h x) ≡ map h (slice_set xs i x)
  map-set [] i x = refl
  map-set (y ∷ xs) zero x = refl
  map-set (y ∷ xs) (suc i) x = ap (λ ys. h y ∷ ys) (map-set xs i x)

  pub map-joined : (xs ys : List X) → map h (xs ++ ys) ≡ map h xs ++ map h ys
  map-joined [] ys = refl
  map-joined (x ∷ xs) ys = ap (λ zs. h x ∷ zs) (map-joined xs ys)

-- What is written where it stands already changes nothing.
pub set-same : {X : Type 0} (xs : List X) (i : ℕ) (x : X) → slice_get xs i ≡ Some x → slice_set xs i x ≡ xs
set-same [] i x is = refl
set-same (y ∷ xs) zero x is = ap (λ z. z ∷ xs) (sym (one is))
  where
    one : {X : Type 0} {a b : X} → Some a ≡ Some b → a ≡ b
    one e = cc
set-same (y ∷ xs) (suc i) x is = ap (λ ys. y ∷ ys) (set-same xs i x is)
