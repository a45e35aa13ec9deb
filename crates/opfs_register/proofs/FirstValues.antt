-- The first values of a function of numbers.
use Rattle.std.proofs.Common.{◌≡◌, ℕ, zero, suc, ◌+◌, ◌<◌, ◌≤◌, ◌==◌, ◌||◌, Bool, true, false, List, [], ◌∷◌, ◌++◌, length, replicate, Some, None, refl, ap, ◌∙◌, slice_set, arith}
use Rattle.std.specs.Prelude.{slice_get}
use Rattle.std.specs.List.{list_any}
use Rattle.opfs_register.specs.Slots.{first_values}
use Rattle.opfs_register.proofs.Numbers.{differs}

pub length-first : {A : Type 0} (f : ℕ → A) (c : ℕ) → length (first_values f c) ≡ c
length-first f zero = refl
length-first f (suc c) = ap suc (length-first (λ n. f (suc n)) c)

pub get-first : {A : Type 0} (f : ℕ → A) (c n : ℕ) → n < c → slice_get (first_values f c) n ≡ Some (f n)
get-first f zero n lt = absurd (omega (arith, lt))
get-first f (suc c) zero lt = refl
get-first f (suc c) (suc n) lt = get-first (λ n. f (suc n)) c n (omega (arith, lt))

pub get-past : {A : Type 0} (f : ℕ → A) (c n : ℕ) → c ≤ n → slice_get (first_values f c) n ≡ None
get-past f zero n le = refl
get-past f (suc c) zero le = absurd (omega (arith, le))
get-past f (suc c) (suc n) le = get-past (λ n. f (suc n)) c n (omega (arith, le))

pub same-first : {A : Type 0} (f g : ℕ → A) (c : ℕ) → ((n : ℕ) → n < c → f n ≡ g n) → first_values f c ≡ first_values g c
same-first f g zero same = refl
same-first {A} f g (suc c) same =
    ap (λ (x : A). x ∷ first_values (λ n. f (suc n)) c) (same 0 (omega arith))
    ∙ ap (λ (xs : List A). g 0 ∷ xs) (same-first (λ n. f (suc n)) (λ n. g (suc n)) c (λ n lt. same (suc n) (omega (arith, lt))))

-- One value changed.
pub set-first : {A : Type 0} (f g : ℕ → A) (c n : ℕ) (v : A) → g n ≡ v → ((m : ℕ) → (n == m) ≡ false → g m ≡ f m) → n < c → first_values g c ≡ slice_set (first_values f c) n v
set-first f g zero n v here other lt = absurd (omega (arith, lt))
set-first {A} f g (suc c) zero v here other lt =
    ap (λ (x : A). x ∷ first_values (λ n. g (suc n)) c) here
    ∙ ap (λ (xs : List A). v ∷ xs) (same-first (λ n. g (suc n)) (λ n. f (suc n)) c (λ n lt. other (suc n) (differs 0 (suc n) (λ same. omega (arith, same)))))
set-first {A} f g (suc c) (suc n) v here other lt =
    ap (λ (x : A). x ∷ first_values (λ n. g (suc n)) c) (other 0 (differs (suc n) 0 (λ same. omega (arith, same))))
    ∙ ap (λ (xs : List A). f 0 ∷ xs) (set-first (λ n. f (suc n)) (λ n. g (suc n)) c n v here (λ m apart. other (suc m) (differs (suc n) (suc m) (λ same. grind (arith, apart, same)))) (omega (arith, lt)))

-- One value more, and many of one kind.
pub and-first : {A : Type 0} (f : ℕ → A) (c : ℕ) → first_values f (suc c) ≡ first_values f c ++ f c ∷ []
and-first f zero = refl
and-first {A} f (suc c) = ap (λ (xs : List A). f 0 ∷ xs) (and-first (λ n. f (suc n)) c)

pub many-first : {A : Type 0} (f : ℕ → A) (c more total : ℕ) (v : A) → total ≡ c + more → ((n : ℕ) → c ≤ n → f n ≡ v) → first_values f total ≡ first_values f c ++ replicate more v
many-first f zero zero zero v sum is = refl
many-first f zero zero (suc total) v sum is = absurd (omega (arith, sum))
many-first f zero (suc more) zero v sum is = absurd (omega (arith, sum))
many-first {A} f zero (suc more) (suc total) v sum is =
    ap (λ (x : A). x ∷ first_values (λ n. f (suc n)) total) (is 0 (omega arith))
    ∙ ap (λ (xs : List A). v ∷ xs) (many-first (λ n. f (suc n)) 0 more total v (omega (arith, sum)) (λ n le. is (suc n) (omega arith)))
many-first f (suc c) more zero v sum is = absurd (omega (arith, sum))
many-first {A} f (suc c) more (suc total) v sum is =
    ap (λ (xs : List A). f 0 ∷ xs) (many-first (λ n. f (suc n)) c more total v (omega (arith, sum)) (λ n le. is (suc n) (omega (arith, le))))

-- Whether one value passes.
pub none-first : {A : Type 0} (p : A → Bool) (c : ℕ) (v : A) → p v ≡ false → list_any p (first_values (λ n. v) c) ≡ false
none-first p zero v fails = refl
none-first p (suc c) v fails = rw fails (none-first p c v fails)

some_is : {A : Type 0} {x y : A} → Some x ≡ Some y → x ≡ y
some_is h = cc

or_false : (a b : Bool) → a ≡ false → b ≡ (a || b)
or_false a b is = rw is refl

or_swap : (a b c : Bool) → (a || (b || c)) ≡ (b || (a || c))
or_swap true true c = refl
or_swap true false c = refl
or_swap false true c = refl
or_swap false false c = refl

pub any-set : {A : Type 0} (p : A → Bool) (xs : List A) (n : ℕ) (v y : A) → slice_get xs n ≡ Some y → p y ≡ false → list_any p (slice_set xs n v) ≡ list_any p (v ∷ xs)
any-set p [] n v y there fails = cc
any-set p (x ∷ xs) zero v y there fails = ap (λ t. p v || t) (or_false (p x) (list_any p xs) (ap p (some_is there) ∙ fails))
any-set p (x ∷ xs) (suc n) v y there fails =
    let tail : list_any p (slice_set xs n v) ≡ (p v || list_any p xs) = any-set p xs n v y there fails in
    ap (λ t. p x || t) tail ∙ or_swap (p x) (p v) (list_any p xs)
