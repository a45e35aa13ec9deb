-- A row in the middle of a list of rows.
use Rattle.std.proofs.Common.{◌≡◌, ℕ, suc, ◌<◌, ◌&&◌, Bool, true, false, List, ◌∷◌, ◌++◌, ◌-◌, length, get_or, take, drop, slice_set, refl, sym, ◌∙◌, ap, Some, arith}
use Rattle.std.proofs.Math.Seq.{drop-cons}
use Rattle.std.proofs.lemmas.List.{length-drop, set_split, take_all, take-append-drop}
use Rattle.std.proofs.lemmas.Option.{slice_get_read}
use Rattle.std.specs.FinMap.Entries.{put, by_order}
use Rattle.std.specs.Ordering.{is_eq, nat_cmp, ordering_then}
use Rattle.std.specs.Cmp.Lexicographic.{slice_cmp, lists_ties, texts_ties}
use Rattle.opfs_base.specs.Places.{place_cmp}
use Rattle.opfs_base.specs.Texts.{Text, same_text, same_texts}
use Rattle.std.specs.declared.cmp.Ordering.{Ordering}
use Rattle.std.specs.declared.cmp.Ordering.TheVariants.{Less, Equal, Greater}
use Rattle.opfs_machine.specs.Ordered.{insert_by}

pub equal_from : (o : Ordering) → is_eq o ≡ true → o ≡ Equal
equal_from Less h = cc
equal_from Equal h = refl
equal_from Greater h = cc

unwrap_same : {X : Type 0} {a b : X} → Some a ≡ Some b → a ≡ b
unwrap_same h = cc

and_false : (t : Bool) → (t && false) ≡ false
and_false true = refl
and_false false = refl

and_true : (t : Bool) → (t && true) ≡ t
and_true true = refl
and_true false = refl

pub drop_here : {X : Type 0} (xs : List X) (i : ℕ) (e : X) → i < length xs → e ≡ get_or xs i e → drop i xs ≡ e ∷ drop (suc i) xs
drop_here xs i e h is = drop-cons xs i e h ∙ ap (λ x. x ∷ drop (suc i) xs) (sym is)

-- What a slice from an index on has.
pub rest-is : {X : Type 0} (xs : List X) (n : ℕ) → take (length xs - n) (drop n xs) ≡ drop n xs
rest-is xs n = let left = length-drop n xs in take_all (length xs - n) (drop n xs) (omega (arith, left))

-- What is read twice at an index is the same.
pub one_here : {X : Type 0} (xs : List X) (i : ℕ) (e d : X) → i < length xs → e ≡ get_or xs i e → d ≡ get_or xs i d → e ≡ d
one_here xs i e d h is too = unwrap_same (sym (slice_get_read xs (length xs) i e refl h is) ∙ slice_get_read xs (length xs) i d refl h too)

module _ {K X : Type 0} (R : K → K → Ordering) where
  put_equal : (k : K) (v : X) (e : K × X) (es : List (K × X)) → R k e.0 ≡ Equal → put R k v (e ∷ es) ≡ (e.0, v) ∷ es
  put_equal k v e es h = ap (λ o. by_order o ((k, v) ∷ e ∷ es) ((e.0, v) ∷ es) (e ∷ put R k v es)) h

  -- Putting a value where one stands is setting it there.
  pub put_here : (k : K) (v : X) (entries : List (K × X)) (i : ℕ) (e : K × X)
      → i < length entries → e ≡ get_or entries i e → is_eq (R k e.0) ≡ true
      → put R k v entries ≡ take i entries ++ put R k v (drop i entries)
      → slice_set entries i (e.0, v) ≡ put R k v entries
  put_here k v entries i e h is same below =
      set_split entries i (e.0, v) h
      ∙ sym (below
      ∙ ap (λ es. take i entries ++ put R k v es) (drop_here entries i e h is)
      ∙ ap (λ es. take i entries ++ es) (put_equal k v e (drop (suc i) entries) (equal_from _ same)))

module _ {A : Type 0} (R : A → A → Ordering) where
  insert_equal : (x y : A) (ys : List A) → R x y ≡ Equal → insert_by R x (y ∷ ys) ≡ y ∷ ys
  insert_equal x y ys h = ap (λ o. by_order o (x ∷ y ∷ ys) (y ∷ ys) (y ∷ insert_by R x ys)) h

  -- An item that ties with one that is there is not added.
  pub insert_here : (x : A) (ys : List A) (i : ℕ) (y : A)
      → i < length ys → y ≡ get_or ys i y → is_eq (R x y) ≡ true
      → insert_by R x ys ≡ take i ys ++ insert_by R x (drop i ys)
      → ys ≡ insert_by R x ys
  insert_here x ys i y h is same below =
      sym (take-append-drop i ys)
      ∙ ap (λ es. take i ys ++ es) (drop_here ys i y h is ∙ sym (insert_equal x y (drop (suc i) ys) (equal_from _ same)) ∙ ap (insert_by R x) (sym (drop_here ys i y h is)))
      ∙ sym below

tied_both : (a b : Ordering) → (is_eq b && is_eq a) ≡ is_eq (ordering_then a b)
tied_both Less b = and_false (is_eq b)
tied_both Equal b = and_true (is_eq b)
tied_both Greater b = and_false (is_eq b)

-- Two places tie where their paths and their units are the same.
pub place_ties : (k l : Text) (p q : List Text) → (same_texts p q && same_text k l) ≡ is_eq (place_cmp (k, p) (l, q))
place_ties k l p q =
    ap (λ t. t && same_text k l) (lists_ties (slice_cmp nat_cmp) texts_ties p q)
    ∙ ap (λ t. is_eq (slice_cmp (slice_cmp nat_cmp) p q) && t) (texts_ties k l)
    ∙ tied_both (slice_cmp nat_cmp k l) (slice_cmp (slice_cmp nat_cmp) p q)
