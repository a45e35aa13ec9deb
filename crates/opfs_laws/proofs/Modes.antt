-- The persistent units stay in order.
use Rattle.std.proofs.Common.{◌≡◌, ℕ, ◌+◌, ◌≤◌, Bool, true, false, ◌&&◌, ◌||◌, List, [], ◌∷◌, sum_by, refl, sym, ap, ◌∙◌, arith}
use Rattle.std.specs.Prelude.{T}
use Rattle.std.specs.List.{list_any}
use Rattle.std.specs.FinMap.Entries.{put, is_sorted, below_all, is_sorted-put, by_order}
use Rattle.std.specs.Ordering.{nat_cmp, is_lt, is_eq, ordering_reverse}
use Rattle.std.specs.declared.cmp.Ordering.{Ordering}
use Rattle.std.specs.declared.cmp.Ordering.TheVariants.{Less, Equal, Greater}
use Rattle.std.specs.Cmp.Lexicographic.{slice_cmp, nat_list_cmp_total, texts_ties, same_text as equal_texts}
use Rattle.std.proofs.lemmas.Bool.{false≢true, and_parts}
use Rattle.std.proofs.lemmas.List.Sums.{sum_by-cons}
use Rattle.opfs_base.specs.Texts.{Text, same_text}
use Rattle.opfs_machine.specs.Ordered.{insert_by}
use Rattle.opfs_laws.specs.Whole.{is_below, is_rising}

abbrev cmp : Text → Text → Ordering
cmp a b = slice_cmp nat_cmp a b

keyed : List Text → List (Text × ℕ)
keyed [] = []
keyed (x ∷ xs) = (x, 0) ∷ keyed xs

below-keyed : (x : Text) (xs : List Text) → below_all cmp x (keyed xs) ≡ is_below x xs
unfolding keyed
below-keyed x [] = refl
below-keyed x (y ∷ ys) = ap (λ b. is_lt (cmp x y) && b) (below-keyed x ys)

sorted-keyed : (xs : List Text) → is_sorted cmp (keyed xs) ≡ is_rising xs
unfolding keyed
sorted-keyed [] = refl
sorted-keyed (x ∷ xs) = λ i. below-keyed x xs i && sorted-keyed xs i

put-keyed : (x : Text) (xs : List Text) → put cmp x 0 (keyed xs) ≡ keyed (insert_by cmp x xs)
unfolding keyed
put-keyed x [] = refl
put-keyed x (y ∷ ys) =
    elim (cmp x y) as (λ o. by_order o ((x, 0) ∷ (y, 0) ∷ keyed ys) ((y, 0) ∷ keyed ys) ((y, 0) ∷ put cmp x 0 (keyed ys)) ≡ keyed (by_order o (x ∷ y ∷ ys) (y ∷ ys) (y ∷ insert_by cmp x ys))) [
      | Less ↦ refl
      | Equal ↦ refl
      | Greater ↦ ap (λ es. (y, 0) ∷ es) (put-keyed x ys)
    ]

told : (b : Bool) → b ≡ true → T b
told true h = tt
told false h = absurd (false≢true h)

tell : (b : Bool) → T b → b ≡ true
tell true h = refl
tell false h = absurd h

pub rising-insert : (x : Text) (xs : List Text) → is_rising xs ≡ true → is_rising (insert_by cmp x xs) ≡ true
rising-insert x xs h =
    sym (sorted-keyed (insert_by cmp x xs))
    ∙ ap (is_sorted cmp) (sym (put-keyed x xs))
    ∙ tell _ (is_sorted-put cmp nat_list_cmp_total x 0 (keyed xs) (told _ (sorted-keyed xs ∙ h)))

below-in : (x y : Text) (ys : List Text) → is_below y ys ≡ true → list_any (same_text x) ys ≡ true → cmp y x ≡ Less
below-in x y [] h inside = absurd (false≢true inside)
below-in x y (z ∷ zs) h inside =
    elim (same_text x z) as (λ b. same_text x z ≡ b → (b || list_any (same_text x) zs) ≡ true → cmp y x ≡ Less) [
      | true ↦ λ is n. ap (cmp y) (equal_texts x z (sym is)) ∙ less (cmp y z) (and_parts _ _ h).0
      | false ↦ λ is n. below-in x y zs (and_parts _ _ h).1 n
    ] refl inside
  where
    less : (o : Ordering) → is_lt o ≡ true → o ≡ Less
    less Less e = refl
    less Equal e = absurd (false≢true e)
    less Greater e = absurd (false≢true e)

-- A text that is there is not inserted again.
pub insert-same : (x : Text) (xs : List Text) → is_rising xs ≡ true → list_any (same_text x) xs ≡ true → insert_by cmp x xs ≡ xs
insert-same x [] h inside = absurd (false≢true inside)
insert-same x (y ∷ ys) h inside =
    elim (cmp x y) as (λ o. cmp x y ≡ o → by_order o (x ∷ y ∷ ys) (y ∷ ys) (y ∷ insert_by cmp x ys) ≡ y ∷ ys) [
      | Less ↦ λ is. absurd (apart (sym (below-in x y ys (and_parts _ _ h).0 (rest (ap is_eq is))) ∙ nat_list_cmp_total.antisymm y x ∙ ap ordering_reverse is))
      | Equal ↦ λ is. refl
      | Greater ↦ λ is. ap (λ zs. y ∷ zs) (insert-same x ys (and_parts _ _ h).1 (rest (ap is_eq is)))
    ] refl
  where
    apart : Less ≡ Greater → ⊥
    apart e = false≢true (sym (ap is_lt e))

    rest : is_eq (cmp x y) ≡ false → list_any (same_text x) ys ≡ true
    rest e = ap (λ b. b || list_any (same_text x) ys) (sym (texts_ties x y ∙ e)) ∙ inside

pub insert-sum : (g : Text → ℕ) (x : Text) (xs : List Text) → sum_by g (insert_by cmp x xs) ≤ sum_by g xs + g x
insert-sum g x [] = let one = sum_by-cons g x [] in omega (arith, one)
insert-sum g x (y ∷ ys) =
    let old = sum_by-cons g y ys in
    elim (cmp x y) as (λ o. sum_by g (by_order o (x ∷ y ∷ ys) (y ∷ ys) (y ∷ insert_by cmp x ys)) ≤ sum_by g (y ∷ ys) + g x) [
      | Less ↦ let whole = sum_by-cons g x (y ∷ ys) in omega (arith, whole)
      | Equal ↦ omega arith
      | Greater ↦ let whole = sum_by-cons g y (insert_by cmp x ys) in let rest = insert-sum g x ys in omega (arith, whole, old, rest)
    ]
