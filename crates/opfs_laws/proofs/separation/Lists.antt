-- Lists that are filtered, searched and changed.
use Rattle.std.proofs.Common.{◌≡◌, ◌||◌, Bool, true, false, cond, List, [], ◌∷◌, filter, filter_map, Option, None, refl, sym, ap, ◌∙◌}
use Rattle.std.specs.List.{list_any, cons_option}

-- From a test that is both.
pub from_false : {A : Type 0} → false ≡ true → A
from_false h = absurd (none h)
  where
    none : false ≡ true → ⊥
    none e = cc

module _ {X : Type 0} (p q : X → Bool) where
  -- Of a filtered list the second filter keeps what it keeps of the whole, if the first keeps all of that.
  pub filter-within : ((x : X) → q x ≡ true → p x ≡ true) → (xs : List X) → filter q (filter p xs) ≡ filter q xs
  filter-within passes [] = refl
  filter-within passes (x ∷ xs) =
      let rest = filter-within passes xs in
      let P = λ (a b : Bool). (b ≡ true → a ≡ true) → filter q (cond a (x ∷ filter p xs) (filter p xs)) ≡ cond b (x ∷ filter q xs) (filter q xs) in
      elim (p x) as (λ a. p x ≡ a → P a (q x)) [
        | true ↦ λ is given. ap (λ ys. cond (q x) (x ∷ ys) ys) rest
        | false ↦ λ is. elim (q x) as (P false) [ true ↦ λ given. from_false (given refl) | false ↦ λ given. rest ]
      ] refl (passes x)

  pub filter-commutes : (xs : List X) → filter p (filter q xs) ≡ filter q (filter p xs)
  filter-commutes [] = refl
  filter-commutes (x ∷ xs) =
      let rest = filter-commutes xs in
      elim (q x) as (λ b. q x ≡ b → filter p (cond b (x ∷ filter q xs) (filter q xs)) ≡ filter q (cond (p x) (x ∷ filter p xs) (filter p xs))) [
        | true ↦ λ is. elim (p x) as (λ a. cond a (x ∷ filter p (filter q xs)) (filter p (filter q xs)) ≡ filter q (cond a (x ∷ filter p xs) (filter p xs))) [
          | true ↦ ap (λ ys. x ∷ ys) rest ∙ sym (ap (λ b. cond b (x ∷ filter q (filter p xs)) (filter q (filter p xs))) is)
          | false ↦ rest
        ]
        | false ↦ λ is. elim (p x) as (λ a. filter p (filter q xs) ≡ filter q (cond a (x ∷ filter p xs) (filter p xs))) [
          | true ↦ rest ∙ sym (ap (λ b. cond b (x ∷ filter q (filter p xs)) (filter q (filter p xs))) is)
          | false ↦ rest
        ]
      ] refl

  -- A filter leaves an answer that what it drops does not give.
  pub any-within : ((x : X) → q x ≡ true → p x ≡ true) → (xs : List X) → list_any q (filter p xs) ≡ list_any q xs
  any-within passes [] = refl
  any-within passes (x ∷ xs) =
      let rest = any-within passes xs in
      let P = λ (a b : Bool). (b ≡ true → a ≡ true) → list_any q (cond a (x ∷ filter p xs) (filter p xs)) ≡ (b || list_any q xs) in
      elim (p x) as (λ a. p x ≡ a → P a (q x)) [
        | true ↦ λ is given. ap (λ b. q x || b) rest
        | false ↦ λ is. elim (q x) as (P false) [ true ↦ λ given. from_false (given refl) | false ↦ λ given. rest ]
      ] refl (passes x)

module _ {X Y : Type 0} (p : X → Bool) (h : X → Option Y) where
  pub map-within : ((x : X) → p x ≡ false → h x ≡ None) → (xs : List X) → filter_map h (filter p xs) ≡ filter_map h xs
  map-within none [] = refl
  map-within none (x ∷ xs) =
      let rest = map-within none xs in
      elim (p x) as (λ a. p x ≡ a → filter_map h (cond a (x ∷ filter p xs) (filter p xs)) ≡ cons_option (h x) (filter_map h xs)) [
        | true ↦ λ is. ap (cons_option (h x)) rest
        | false ↦ λ is. rest ∙ ap (λ o. cons_option o (filter_map h xs)) (sym (none x is))
      ] refl
