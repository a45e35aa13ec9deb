-- Texts that are told apart by what they begin with.
use Rattle.std.proofs.Common.{◌≡◌, ℕ, ◌==◌, ◌<◌, ◌≤◌, ◌^◌, not, ◌&&◌, Bool, true, false, [], ◌∷◌, ◌++◌, length, decimal, refl, sym, ap, ◌∙◌, arith}
use Rattle.std.proofs.lemmas.Bool.Decides.{nat_tests}
use Rattle.std.proofs.lemmas.Fmt.{decimal_injective, decimal_is_IsNumeral}
use Rattle.std.proofs.lemmas.Str.Parse.{digit_from_value}
use Rattle.std.specs.Str.Parse.{AllDigits}
use Rattle.opfs_base.specs.Texts.{Text}
use Rattle.opfs_transcripts.specs.Told.Goings.{has_no}

pub true-false : true ≡ false → ⊥
true-false e = cc

pub head-same : (a b : ℕ) (x y : Text) → a ∷ x ≡ b ∷ y → a ≡ b
head-same a b x y e = cc

pub tail-same : (a b : ℕ) (x y : Text) → a ∷ x ≡ b ∷ y → x ≡ y
tail-same a b x y e = cc

same-test : (a b : ℕ) → a ≡ b → (a == b) ≡ true
same-test a b e = grind (arith, nat_tests)

first-not : (a b : Bool) → (not a && b) ≡ true → a ≡ true → ⊥
first-not true b h e = true-false (sym h)
first-not false b h e = true-false (sym e)

second-of : (a b : Bool) → (a && b) ≡ true → b ≡ true
second-of true b h = h
second-of false b h = absurd (true-false (sym h))

-- Two texts without a byte, which stands behind both, are the same; and so is what stands behind it.
pub front-same : (c : ℕ) (x y a b : Text) → has_no c x ≡ true → has_no c y ≡ true → x ++ c ∷ a ≡ y ++ c ∷ b → (x ≡ y) × (a ≡ b)
front-same c [] [] a b hx hy e = (refl, tail-same c c a b e)
front-same c [] (d ∷ y) a b hx hy e = absurd (first-not (d == c) (has_no c y) hy (same-test d c (sym (head-same c d a (y ++ c ∷ b) e))))
front-same c (d ∷ x) [] a b hx hy e = absurd (first-not (d == c) (has_no c x) hx (same-test d c (head-same d c (x ++ c ∷ a) b e)))
front-same c (d ∷ x) (f ∷ y) a b hx hy e =
    let rest = front-same c x y a b (second-of (not (d == c)) (has_no c x) hx) (second-of (not (f == c)) (has_no c y) hy) (tail-same d f (x ++ c ∷ a) (y ++ c ∷ b) e) in
    ((λ i. head-same d f (x ++ c ∷ a) (y ++ c ∷ b) e i ∷ rest.0 i), rest.1)

-- A number's text has digits alone.
digit-no : (c d : ℕ) → 48 ≤ d → d ≤ 57 → c < 48 → not (d == c) ≡ true
digit-no c d low high small = grind (arith, nat_tests)

and-both : (a b : Bool) → a ≡ true → b ≡ true → (a && b) ≡ true
and-both a b h k = λ i. h i && k i

digits-no : (c : ℕ) (ds : Text) → c < 48 → AllDigits 10 ds → has_no c ds ≡ true
digits-no c [] small all = refl
digits-no c (d ∷ ds) small all =
    let range = digit_from_value d all.0 in
    and-both (not (d == c)) (has_no c ds) (digit-no c d range.0 range.1 small) (digits-no c ds small all.1)

-- A number with a point behind it.
pub same-number : (k j : ℕ) (x y : Text) → k < 2 ^ 64 → j < 2 ^ 64 → decimal k ++ 46 ∷ x ≡ decimal j ++ 46 ∷ y → (k ≡ j) × (x ≡ y)
same-number k j x y hk hj e =
    let a = digits-no 46 (decimal k) (omega arith) (decimal_is_IsNumeral k hk).0.1 in
    let b = digits-no 46 (decimal j) (omega arith) (decimal_is_IsNumeral j hj).0.1 in
    let both = front-same 46 (decimal k) (decimal j) x y a b e in
    (decimal_injective k j hk hj both.0, both.1)

-- A number's text begins with a digit.
pub record BeginsWithDigit (text : Text) : Type 0 where
  pub digit : ℕ
  pub rest : Text
  pub is : text ≡ digit ∷ rest
  pub low : 48 ≤ digit
  pub high : digit ≤ 57

digit-first : (ds : Text) → 0 < length ds → AllDigits 10 ds → BeginsWithDigit ds
digit-first [] some all = absurd (omega arith)
digit-first (d ∷ ds) some all =
    let range = digit_from_value d all.0 in
    record { digit = d; rest = ds; is = refl; low = range.0; high = range.1 }

pub number-first : (k : ℕ) → k < 2 ^ 64 → BeginsWithDigit (decimal k)
number-first k h = digit-first (decimal k) (decimal_is_IsNumeral k h).0.0 (decimal_is_IsNumeral k h).0.1

-- So it does not begin with a letter.
pub no-letter : (k c : ℕ) (x y : Text) → k < 2 ^ 64 → 57 < c → decimal k ++ x ≡ c ∷ y → ⊥
no-letter k c x y h letter e =
    let first = number-first k h in
    let both : first.digit ∷ (first.rest ++ x) ≡ c ∷ y = sym (ap (λ d. d ++ x) first.is) ∙ e in
    let same : first.digit ≡ c = head-same first.digit c (first.rest ++ x) y both in
    let high = first.high in
    omega (arith, same, high)

pub no-text : (k : ℕ) (x : Text) → k < 2 ^ 64 → decimal k ++ x ≡ [] → ⊥
no-text k x h e =
    let first = number-first k h in
    let none : first.digit ∷ (first.rest ++ x) ≡ [] = sym (ap (λ d. d ++ x) first.is) ∙ e in
    cc
