-- What rows stay as others are made or closed.
use Rattle.std.proofs.Common.{◌≡◌, ◌≢◌, ◌⊎◌, ℕ, zero, suc, ◌+◌, ◌-◌, List, [], ◌∷◌, ◌++◌, length, map, slice_set, Some, refl, sym, ap, ◌∙◌, inl, inr, arith}
use Rattle.std.specs.Prelude.{slice_get}
use mathlib.Core.List.{map-append}
use lib.ListN.{length-map}
use Rattle.opfs_runner.specs.RunLaws.Kinds.{RowKind, sort_of, kind_at, sort_at}

get-append : {X : Type 0} (xs ys : List X) (i : ℕ) (x : X) → slice_get xs i ≡ Some x → slice_get (xs ++ ys) i ≡ Some x
get-append [] ys i x is = absurd cc
get-append (y ∷ xs) ys zero x is = is
get-append (y ∷ xs) ys (suc i) x is = get-append xs ys i x is

get-last : {X : Type 0} (xs : List X) (x : X) → slice_get (xs ++ x ∷ []) (length xs) ≡ Some x
get-last [] x = refl
get-last (y ∷ xs) x = get-last xs x

kind-append : (kinds more : List RowKind) (n : ℕ) (k : RowKind) → kind_at kinds n ≡ Some k → kind_at (kinds ++ more) n ≡ Some k
kind-append kinds more zero k is = absurd cc
kind-append kinds more (suc i) k is = get-append kinds more i k is

-- A row stays as more are made.
pub sort-append : (kinds more : List RowKind) (n : ℕ) (k : RowKind) → sort_at kinds n ≡ Some k → sort_at (kinds ++ more) n ≡ Some k
sort-append kinds more n k is = ap (λ ks. kind_at ks n) (map-append sort_of kinds more) ∙ kind-append (map sort_of kinds) (map sort_of more) n k is

-- The last one.
pub sort-last : (kinds : List RowKind) (k : RowKind) (n : ℕ) → n ≡ length kinds + 1 → sort_at (kinds ++ k ∷ []) n ≡ Some (sort_of k)
sort-last kinds k n is =
    let place : n ≡ suc (length (map sort_of kinds)) = omega (arith, is, length-map kinds sort_of) in
    ap (sort_at (kinds ++ k ∷ [])) place
    ∙ ap (λ ks. slice_get ks (length (map sort_of kinds))) (map-append sort_of kinds (k ∷ []))
    ∙ get-last (map sort_of kinds) (sort_of k)

some-same : {X : Type 0} {x y : X} → Some x ≡ Some y → x ≡ y
some-same e = cc

-- One that is closed stays what it is.
sorts-set : (kinds : List RowKind) (i : ℕ) (k : RowKind) → slice_get (map sort_of kinds) i ≡ Some (sort_of k) → map sort_of (slice_set kinds i k) ≡ map sort_of kinds
sorts-set [] i k is = refl
sorts-set (x ∷ kinds) zero k is = ap (λ y. y ∷ map sort_of kinds) (sym (some-same is))
sorts-set (x ∷ kinds) (suc i) k is = ap (λ ks. sort_of x ∷ ks) (sorts-set kinds i k is)

pub sorts-closed : (kinds : List RowKind) (n : ℕ) (k : RowKind) → sort_at kinds n ≡ Some (sort_of k) → map sort_of (slice_set kinds (n - 1) k) ≡ map sort_of kinds
sorts-closed kinds zero k is = absurd cc
sorts-closed kinds (suc i) k is =
    let at : suc i - 1 ≡ i = omega arith in
    ap (λ j. map sort_of (slice_set kinds j k)) at ∙ sorts-set kinds i k is

-- ---- a row among one more

last-cases : {X : Type 0} (xs : List X) (i : ℕ) (x y : X) → slice_get (xs ++ x ∷ []) i ≡ Some y → (slice_get xs i ≡ Some y) ⊎ ((i ≡ length xs) × (x ≡ y))
last-cases [] zero x y is = inr (refl, some-same is)
last-cases [] (suc i) x y is = absurd cc
last-cases (z ∷ xs) zero x y is = inl is
last-cases (z ∷ xs) (suc i) x y is =
    elim (last-cases xs i x y is) as (λ t. (slice_get xs i ≡ Some y) ⊎ ((suc i ≡ suc (length xs)) × (x ≡ y))) [
      | inl old ↦ inl old
      | inr new ↦ inr (ap suc new.0, new.1)
    ]

-- It was there, or is the last.
pub sort-cases : (kinds : List RowKind) (k j : RowKind) (n : ℕ) → sort_at (kinds ++ k ∷ []) n ≡ Some j → (sort_at kinds n ≡ Some j) ⊎ ((n ≡ length kinds + 1) × (sort_of k ≡ j))
sort-cases kinds k j zero is = absurd cc
sort-cases kinds k j (suc i) is =
    elim (last-cases (map sort_of kinds) i (sort_of k) j (ap (λ ks. slice_get ks i) (sym (map-append sort_of kinds (k ∷ []))) ∙ is))
    as (λ t. (sort_at kinds (suc i) ≡ Some j) ⊎ ((suc i ≡ length kinds + 1) × (sort_of k ≡ j))) [
      | inl old ↦ inl old
      | inr new ↦ inr ((let place = new.0 in omega (arith, place, length-map kinds sort_of)), new.1)
    ]

-- ---- a row that is put in the place of another

get-put : {X : Type 0} (xs : List X) (i : ℕ) (x y : X) → slice_get xs i ≡ Some x → slice_get (slice_set xs i y) i ≡ Some y
get-put [] i x y is = absurd cc
get-put (z ∷ xs) zero x y is = refl
get-put (z ∷ xs) (suc i) x y is = get-put xs i x y is

get-other : {X : Type 0} (xs : List X) (i j : ℕ) (y : X) → j ≢ i → slice_get (slice_set xs i y) j ≡ slice_get xs j
get-other [] i j y apart = refl
get-other (x ∷ xs) zero zero y apart = absurd (apart refl)
get-other (x ∷ xs) zero (suc j) y apart = refl
get-other (x ∷ xs) (suc i) zero y apart = refl
get-other (x ∷ xs) (suc i) (suc j) y apart = get-other xs i j y (λ e. apart (ap suc e))

map-put : (kinds : List RowKind) (i : ℕ) (k : RowKind) → map sort_of (slice_set kinds i k) ≡ slice_set (map sort_of kinds) i (sort_of k)
map-put [] i k = refl
map-put (x ∷ kinds) zero k = refl
map-put (x ∷ kinds) (suc i) k = ap (λ ks. sort_of x ∷ ks) (map-put kinds i k)

module _ (kinds : List RowKind) (k c : RowKind) where
  pub sort-put : (n : ℕ) → sort_at kinds n ≡ Some k → sort_at (slice_set kinds (n - 1) c) n ≡ Some (sort_of c)
  sort-put zero is = absurd cc
  sort-put (suc i) is =
      let at : suc i - 1 ≡ i = omega arith in
      ap (λ j. slice_get (map sort_of (slice_set kinds j c)) i) at
      ∙ ap (λ ks. slice_get ks i) (map-put kinds i c)
      ∙ get-put (map sort_of kinds) i k (sort_of c) is

  -- Any other stays what it is.
  pub sort-other : (n m : ℕ) → sort_at kinds n ≡ Some k → m ≢ n → sort_at (slice_set kinds (n - 1) c) m ≡ sort_at kinds m
  sort-other zero m is apart = absurd cc
  sort-other (suc i) zero is apart = refl
  sort-other (suc i) (suc j) is apart =
      let at : suc i - 1 ≡ i = omega arith in
      ap (λ x. slice_get (map sort_of (slice_set kinds x c)) j) at
      ∙ ap (λ ks. slice_get ks j) (map-put kinds i c)
      ∙ get-other (map sort_of kinds) i j (sort_of c) (λ e. apart (ap suc e))
