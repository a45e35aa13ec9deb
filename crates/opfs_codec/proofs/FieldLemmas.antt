-- A field that is read is the field that was written, and what was written is read again.
use Rattle.std.proofs.Common.{◌≡◌, ℕ, zero, suc, ◌+◌, ◌%◌, ◌^◌, ◌<◌, ◌≤◌, Bool, true, false, cond, ltb, List, [], ◌∷◌, ◌++◌, length, get_or, take, drop, Option, Some, None, refl, sym, ap, subst, ◌∙◌, append_assoc, arith, inl, inr}
use Rattle.std.specs.Int.{Width, w8, w16, w32, w64, byte_len, from_le_bytes, to_le_bytes}
use Rattle.std.specs.List.{flat_map, AllByRecursion}
use Rattle.std.specs.Str.{is_utf8}
use Rattle.std.proofs.lemmas.Bool.{cases_lt, ltb-false, le-ltb}
use Rattle.std.proofs.lemmas.List.{take_at, drop_at, take-append-drop, length-append, length-take, get_or-drop, get_or-take, get_or_past}
use Rattle.std.proofs.lemmas.Nat.{le_bytes_2, le_bytes_4, le_bytes_8, from_le_bytes-to_le_bytes_2, from_le_bytes-to_le_bytes_4, from_le_bytes-to_le_bytes_8}
use Rattle.opfs_base.specs.Texts.{Text}
use Rattle.opfs_codec.specs.Spelling.{text, IsText}
use Rattle.opfs_codec.specs.Reading.{◌>>=◌, number_at, bytes_at, text_at, items_at}

abbrev pub IsBytes : List ℕ → Type 0
IsBytes bytes = (i : ℕ) → get_or bytes i 0 < 256

pub IsBytes-drop : (n : ℕ) (bytes : List ℕ) → IsBytes bytes → IsBytes (drop n bytes)
IsBytes-drop n bytes h i = rw get_or-drop (h (n + i))

IsBytes-take : (n : ℕ) (bytes : List ℕ) → IsBytes bytes → IsBytes (take n bytes)
IsBytes-take n bytes h i =
    elim (cases_lt i n) [
      | inl lt ↦ rw (get_or-take n bytes i 0 lt) (h i)
      | inr le ↦ rw (get_or_past (take n bytes) i 0 (omega (arith, length-take n bytes))) (omega arith)
    ]

-- the value of a step that did not fail
pub bind_some : {A B : Type 0} (r : Option A) (f : A → Option B) (y : B) → (r >>= f) ≡ Some y → (x : A) × (r ≡ Some x) × (f x ≡ Some y)
bind_some (Some x) f y e = (x, refl, e)
bind_some None f y e = absurd cc

-- a test that did not fail
pub guard_no : {A : Type 0} (b : Bool) (x y : A) → cond b None (Some x) ≡ Some y → (b ≡ false) × (x ≡ y)
guard_no true x y e = absurd cc
guard_no false x y e = (refl, cc)

pub guard_yes : {A : Type 0} (b : Bool) (r : Option A) (y : A) → cond b r None ≡ Some y → (b ≡ true) × (r ≡ Some y)
guard_yes true r y e = (refl, e)
guard_yes false r y e = absurd cc

abbrev pub done : {A : Type 0} → A → Option A
done x = Some x

pub some_is : {A : Type 0} (x y : A) → done x ≡ done y → x ≡ y
some_is x y e = cc

-- what a reader took from the front
pub record Takes (bytes text rest : List ℕ) : Type 0 where
  pub parts : bytes ≡ text ++ rest
  pub rest_fits : IsBytes rest

pub Takes-then : (a x b y c : List ℕ) → Takes a x b → Takes b y c → Takes a (x ++ y) c
Takes-then a x b y c p q = record { parts = p.parts ∙ ap (λ (t : List ℕ). x ++ t) q.parts ∙ sym (append_assoc x y c); rest_fits = q.rest_fits }

pub record IsWide (w : Width) (limit : ℕ) : Type 0 where
  pub len : (n : ℕ) → length (to_le_bytes w n) ≡ byte_len w
  pub back : (bytes : List ℕ) → length bytes ≡ byte_len w → IsBytes bytes → to_le_bytes w (from_le_bytes w bytes) ≡ bytes
  pub again : (n : ℕ) → n < limit → from_le_bytes w (to_le_bytes w n) ≡ n
  pub below : (bytes : List ℕ) → IsBytes bytes → from_le_bytes w bytes < limit

byte_back : (bytes : List ℕ) → length bytes ≡ 1 → IsBytes bytes → to_le_bytes w8 (from_le_bytes w8 bytes) ≡ bytes
byte_back [] len fits = absurd (omega arith)
byte_back (b ∷ []) len fits = let lt : b < 256 = fits 0 in let e : b % 256 ≡ b = omega arith in ap (λ (x : ℕ). x ∷ []) e
byte_back (b ∷ d ∷ more) len fits = absurd (omega arith)

pub wide8 : IsWide w8 (2 ^ 8)
wide8 = record {
  len = λ n. refl;
  back = byte_back;
  again = λ n lt. omega arith;
  below = λ bytes fits. omega (arith, fits 0);
}

pub wide16 : IsWide w16 (2 ^ 16)
wide16 = record {
  len = λ n. refl;
  back = λ bytes len fits. le_bytes_2 bytes _ len fits refl;
  again = λ n lt. from_le_bytes-to_le_bytes_2 n lt;
  below = λ bytes fits. omega (arith, fits 0, fits 1);
}

pub wide32 : IsWide w32 (2 ^ 32)
wide32 = record {
  len = λ n. refl;
  back = λ bytes len fits. le_bytes_4 bytes _ len fits refl;
  again = λ n lt. from_le_bytes-to_le_bytes_4 n lt;
  below = λ bytes fits. omega (arith, fits 0, fits 1, fits 2, fits 3);
}

pub wide64 : IsWide w64 (2 ^ 64)
wide64 = record {
  len = λ n. refl;
  back = λ bytes len fits. le_bytes_8 bytes _ len fits refl;
  again = λ n lt. from_le_bytes-to_le_bytes_8 n lt;
  below = λ bytes fits. omega (arith, fits 0, fits 1, fits 2, fits 3, fits 4, fits 5, fits 6, fits 7);
}

-- ---- a field: what it takes from the front is spelled so, and what is spelled so is read

pub record IsField {A : Type 0} (spell : A → List ℕ) (good : A → Type 0) (at : List ℕ → Option (A × List ℕ)) : Type 0 where
  pub takes : (bytes : List ℕ) (x : A × List ℕ) → IsBytes bytes → at bytes ≡ Some x → Takes bytes (spell x.0) x.1 × good x.0
  pub again : (x : A) (rest : List ℕ) → good x → at (spell x ++ rest) ≡ Some (x, rest)

number_takes : (w : Width) (limit : ℕ) (wide : IsWide w limit) (bytes : List ℕ) (x : ℕ × List ℕ) → IsBytes bytes → number_at w bytes ≡ Some x → Takes bytes (to_le_bytes w x.0) x.1 × (x.0 < limit)
number_takes w limit wide bytes x fits e =
    let g = guard_no (ltb (length bytes) (byte_len w)) (from_le_bytes w (take (byte_len w) bytes), drop (byte_len w) bytes) x e in
    let long : byte_len w ≤ length bytes = ltb-false _ _ g.0 in
    let front : to_le_bytes w (from_le_bytes w (take (byte_len w) bytes)) ≡ take (byte_len w) bytes = wide.back (take (byte_len w) bytes) (omega (arith, length-take (byte_len w) bytes)) (IsBytes-take (byte_len w) bytes fits) in
    subst (λ (y : ℕ × List ℕ). Takes bytes (to_le_bytes w y.0) y.1 × (y.0 < limit)) g.1
    (record { parts = rw front (sym (take-append-drop (byte_len w) bytes)); rest_fits = IsBytes-drop (byte_len w) bytes fits }, wide.below (take (byte_len w) bytes) (IsBytes-take (byte_len w) bytes fits))

number_again : (w : Width) (limit : ℕ) (wide : IsWide w limit) (n : ℕ) (rest : List ℕ) → n < limit → number_at w (to_le_bytes w n ++ rest) ≡ Some (n, rest)
number_again w limit wide n rest lt =
    let len = wide.len n in
    let long : ltb (length (to_le_bytes w n ++ rest)) (byte_len w) ≡ false = le-ltb _ _ (omega (arith, length-append (to_le_bytes w n) rest)) in
    rw (long, take_at (to_le_bytes w n) rest (byte_len w) len, drop_at (to_le_bytes w n) rest (byte_len w) len, wide.again n lt) refl

pub number_field : (w : Width) (limit : ℕ) → IsWide w limit → IsField (to_le_bytes w) (λ n. n < limit) (number_at w)
number_field w limit wide = record { takes = number_takes w limit wide; again = number_again w limit wide }

bytes_takes : (w : Width) (limit : ℕ) (wide : IsWide w limit) (bytes : List ℕ) (x : Text × List ℕ) → IsBytes bytes → bytes_at w bytes ≡ Some x → Takes bytes (text w x.0) x.1 × (length x.0 < limit)
unfolding bytes_at
bytes_takes w limit wide bytes x fits e =
    let b = bind_some (number_at w bytes) (λ n. cond (ltb (length n.1) n.0) None (Some (take n.0 n.1, drop n.0 n.1))) x e in
    let n = b.0 in
    let t = number_takes w limit wide bytes n fits b.1 in
    let g = guard_no (ltb (length n.1) n.0) (take n.0 n.1, drop n.0 n.1) x b.2 in
    let long : n.0 ≤ length n.1 = ltb-false _ _ g.0 in
    let len : length (take n.0 n.1) ≡ n.0 = omega (arith, length-take n.0 n.1) in
    let second : Takes n.1 (take n.0 n.1) (drop n.0 n.1) = record { parts = sym (take-append-drop n.0 n.1); rest_fits = IsBytes-drop n.0 n.1 t.0.rest_fits } in
    let both = Takes-then bytes (to_le_bytes w n.0) n.1 (take n.0 n.1) (drop n.0 n.1) t.0 second in
    let whole : Takes bytes (text w (take n.0 n.1)) (drop n.0 n.1) = subst (λ (k : ℕ). Takes bytes (to_le_bytes w k ++ take n.0 n.1) (drop n.0 n.1)) (sym len) both in
    subst (λ (p : List ℕ × List ℕ). Takes bytes (text w p.0) p.1 × (length p.0 < limit)) g.1 (whole, subst (λ (k : ℕ). k < limit) (sym len) t.1)

bytes_again : (w : Width) (limit : ℕ) (wide : IsWide w limit) (t rest : List ℕ) → length t < limit → bytes_at w (text w t ++ rest) ≡ Some (t, rest)
unfolding bytes_at
bytes_again w limit wide t rest lt =
    let long : ltb (length (t ++ rest)) (length t) ≡ false = le-ltb _ _ (omega (arith, length-append t rest)) in
    let first : number_at w (text w t ++ rest) ≡ Some (length t, t ++ rest) = ap (number_at w) (append_assoc (to_le_bytes w (length t)) t rest) ∙ number_again w limit wide (length t) (t ++ rest) lt in
    ap (λ (r : Option (ℕ × List ℕ)). r >>= λ n. cond (ltb (length n.1) n.0) None (Some (take n.0 n.1, drop n.0 n.1))) first
    ∙ rw (long, take_at t rest (length t) refl, drop_at t rest (length t) refl) refl

text_takes : (w : Width) (limit : ℕ) (wide : IsWide w limit) (test : Text → Bool) (bytes : List ℕ) (x : Text × List ℕ) → IsBytes bytes → text_at w test bytes ≡ Some x → Takes bytes (text w x.0) x.1 × (IsText test x.0 × (length x.0 < limit))
unfolding text_at
text_takes w limit wide test bytes x fits e =
    let b = bind_some (bytes_at w bytes) (λ t. cond (is_utf8 t.0) (cond (test t.0) (Some t) None) None) x e in
    let t = bytes_takes w limit wide bytes b.0 fits b.1 in
    let utf8 = guard_yes (is_utf8 b.0.0) (cond (test b.0.0) (Some b.0) None) x b.2 in
    let tested = guard_yes (test b.0.0) (Some b.0) x utf8.1 in
    subst (λ (p : Text × List ℕ). Takes bytes (text w p.0) p.1 × (IsText test p.0 × (length p.0 < limit))) (some_is b.0 x tested.1) (t.0, ((utf8.0, tested.0), t.1))

text_again : (w : Width) (limit : ℕ) (wide : IsWide w limit) (test : Text → Bool) (t : Text) (rest : List ℕ) → IsText test t × (length t < limit) → text_at w test (text w t ++ rest) ≡ Some (t, rest)
unfolding text_at
text_again w limit wide test t rest good =
    ap (λ (r : Option (Text × List ℕ)). r >>= λ p. cond (is_utf8 p.0) (cond (test p.0) (Some p) None) None) (bytes_again w limit wide t rest good.1)
    ∙ rw (good.0.0, good.0.1) refl

pub text_field : (w : Width) (limit : ℕ) → IsWide w limit → (test : Text → Bool) → IsField (text w) (λ t. IsText test t × (length t < limit)) (text_at w test)
text_field w limit wide test = record { takes = text_takes w limit wide test; again = text_again w limit wide test }

-- ---- two fields, one after the other, and so many items

abbrev pub pair_at : {A B C : Type 0} → (List ℕ → Option (A × List ℕ)) → (List ℕ → Option (B × List ℕ)) → (A → B → C) → List ℕ → Option (C × List ℕ)
pair_at fa fb make bytes = fa bytes >>= λ p. fb p.1 >>= λ q. Some (make p.0 q.0, q.1)

pub pair_takes : {A B C : Type 0} (sa : A → List ℕ) (ga : A → Type 0) (fa : List ℕ → Option (A × List ℕ)) (sb : B → List ℕ) (gb : B → Type 0) (fb : List ℕ → Option (B × List ℕ))
    → IsField sa ga fa → IsField sb gb fb → (make : A → B → C) (bytes : List ℕ) (x : C × List ℕ) → IsBytes bytes → pair_at fa fb make bytes ≡ Some x
    → (a : A) × (b : B) × (make a b ≡ x.0) × Takes bytes (sa a ++ sb b) x.1 × ga a × gb b
pair_takes {A} {B} {C} sa ga fa sb gb fb ha hb make bytes x fits e =
    let p = bind_some (fa bytes) (λ a. fb a.1 >>= λ b. Some (make a.0 b.0, b.1)) x e in
    let q = bind_some (fb p.0.1) (λ b. Some (make p.0.0 b.0, b.1)) x p.2 in
    let first = ha.takes bytes p.0 fits p.1 in
    let second = hb.takes p.0.1 q.0 first.0.rest_fits q.1 in
    let same = some_is (make p.0.0 q.0.0, q.0.1) x q.2 in
    (p.0.0, q.0.0, ap (λ (y : C × List ℕ). y.0) same, subst (λ (r : List ℕ). Takes bytes (sa p.0.0 ++ sb q.0.0) r) (ap (λ (y : C × List ℕ). y.1) same) (Takes-then bytes (sa p.0.0) p.0.1 (sb q.0.0) q.0.1 first.0 second.0), first.1, second.1)

pub pair_again : {A B C : Type 0} (sa : A → List ℕ) (ga : A → Type 0) (fa : List ℕ → Option (A × List ℕ)) (sb : B → List ℕ) (gb : B → Type 0) (fb : List ℕ → Option (B × List ℕ))
    → IsField sa ga fa → IsField sb gb fb → (make : A → B → C) (a : A) (b : B) (rest : List ℕ) → ga a → gb b → pair_at fa fb make ((sa a ++ sb b) ++ rest) ≡ Some (make a b, rest)
pair_again {A} {B} {C} sa ga fa sb gb fb ha hb make a b rest good_a good_b =
    let first : fa ((sa a ++ sb b) ++ rest) ≡ Some (a, sb b ++ rest) = ap fa (append_assoc (sa a) (sb b) rest) ∙ ha.again a (sb b ++ rest) good_a in
    let then_b : A × List ℕ → Option (C × List ℕ) = λ p. fb p.1 >>= λ q. Some (make p.0 q.0, q.1) in
    let then_c : B × List ℕ → Option (C × List ℕ) = λ q. Some (make a q.0, q.1) in
    ap (λ (r : Option (A × List ℕ)). r >>= then_b) first ∙ ap (λ (r : Option (B × List ℕ)). r >>= then_c) (hb.again b rest good_b)

pub items_take : {A : Type 0} (s : A → List ℕ) (g : A → Type 0) (f : List ℕ → Option (A × List ℕ)) → IsField s g f → (n : ℕ) (bytes : List ℕ) (x : List A × List ℕ) → IsBytes bytes → items_at f n bytes ≡ Some x
    → Takes bytes (flat_map s x.0) x.1 × (length x.0 ≡ n) × AllByRecursion g x.0
unfolding items_at
items_take {A} s g f h zero bytes x fits e =
    let none : List A × List ℕ = ([], bytes) in
    subst (λ (y : List A × List ℕ). Takes bytes (flat_map s y.0) y.1 × (length y.0 ≡ 0) × AllByRecursion g y.0) (some_is none x e) (record { parts = refl; rest_fits = fits }, refl, tt)
items_take {A} s g f h (suc n) bytes x fits e =
    let a = bind_some (f bytes) (λ first. items_at f n first.1 >>= λ others. Some (first.0 ∷ others.0, others.1)) x e in
    let b = bind_some (items_at f n a.0.1) (λ others. Some (a.0.0 ∷ others.0, others.1)) x a.2 in
    let first = h.takes bytes a.0 fits a.1 in
    let second = items_take s g f h n a.0.1 b.0 first.0.rest_fits b.1 in
    let both = Takes-then bytes (s a.0.0) a.0.1 (flat_map s b.0.0) b.0.1 first.0 second.0 in
    let made : List A × List ℕ = (a.0.0 ∷ b.0.0, b.0.1) in
    subst (λ (y : List A × List ℕ). Takes bytes (flat_map s y.0) y.1 × (length y.0 ≡ suc n) × AllByRecursion g y.0) (some_is made x b.2) (both, ap suc second.1, (first.1, second.2))

pub items_again : {A : Type 0} (s : A → List ℕ) (g : A → Type 0) (f : List ℕ → Option (A × List ℕ)) → IsField s g f → (xs : List A) (rest : List ℕ) → AllByRecursion g xs → items_at f (length xs) (flat_map s xs ++ rest) ≡ Some (xs, rest)
unfolding items_at
items_again s g f h [] rest good = refl
items_again {A} s g f h (x ∷ xs) rest good =
    let first : f (flat_map s (x ∷ xs) ++ rest) ≡ Some (x, flat_map s xs ++ rest) = ap f (append_assoc (s x) (flat_map s xs) rest) ∙ h.again x (flat_map s xs ++ rest) good.0 in
    ap (λ (r : Option (A × List ℕ)). r >>= λ p. items_at f (length xs) p.1 >>= λ others. Some (p.0 ∷ others.0, others.1)) first
    ∙ ap (λ (r : Option (List A × List ℕ)). r >>= λ others. Some (x ∷ others.0, others.1)) (items_again s g f h xs rest good.1)
