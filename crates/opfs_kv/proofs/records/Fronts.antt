-- The front of a record is read as it is spelled.
use Rattle.std.proofs.Common.{◌≡◌, ◌⊎◌, ℕ, ◌<◌, ◌≤◌, ◌==◌, eqb, Bool, true, false, cond, ltb, [], ◌∷◌, ◌++◌, length, take, drop, Option, Some, None, IfSome, refl, sym, ap, subst, ◌∙◌, append_assoc, arith, inl, inr}
use Rattle.std.specs.Int.{w32, to_le_bytes, from_le_bytes}
use Rattle.std.proofs.lemmas.Bool.{cases_lt, eqb-true, ltb-false, le-ltb}
use Rattle.std.proofs.lemmas.List.{take_at, drop_at, take-append-drop, take-append-le, drop-append-le, length-append, length-take, length-drop, get_or-take, get_or_past}
use Rattle.opfs_base.specs.Texts.{Text}
use Rattle.opfs_codec.proofs.FieldLemmas.{IsBytes, IsBytes-drop, wide32}
use Rattle.opfs_kv.specs.Records.Heads.{Head, front_of, head_at, key_by, kind_by, sized_by}
use Rattle.opfs_kv.specs.Records.Records.{IsKey}

abbrev pub IsSize : Option ℕ → Type 0
IsSize len = IfSome len (λ n. n ≤ 65536)

-- ---- what is spelled so is read

sized-bytes : (key le rest : Text) (n : ℕ) → length le ≡ 4 → from_le_bytes w32 le ≡ n → n ≤ 65536 → sized_by key (le ++ rest) ≡ Some (key, Some n)
unfolding sized_by
sized-bytes key le rest n four is small =
    let long : ltb (length (le ++ rest)) 4 ≡ false = le-ltb _ _ (omega (arith, length-append le rest)) in
    let few : ltb 65536 n ≡ false = le-ltb _ _ small in
    rw (long, take_at le rest 4 four, is, few) refl

keyed-bytes : (kind : ℕ) (key rest : Text) → IsKey key → key_by kind (length key) (key ++ rest) ≡ kind_by kind key rest
unfolding key_by
keyed-bytes kind key rest good =
    let some : (length key == 0) ≡ false = grind (arith, good.0) in
    let long : ltb (length (key ++ rest)) (length key) ≡ false = le-ltb _ _ (omega (arith, length-append key rest)) in
    rw (some, long, take_at key rest (length key) refl, drop_at key rest (length key) refl) refl

pub head-again : (key : Text) (len : Option ℕ) (rest : Text) → IsKey key → IsSize len → head_at (front_of key len ++ rest) ≡ Some (key, len)
unfolding head_at kind_by
head-again key (Some n) rest good small =
    ap (key_by 1 (length key)) (append_assoc key (to_le_bytes w32 n) rest)
    ∙ keyed-bytes 1 key (to_le_bytes w32 n ++ rest) good
    ∙ sized-bytes key (to_le_bytes w32 n) rest n (wide32.len n) (wide32.again n (omega (arith, small))) small
head-again key None rest good small = keyed-bytes 2 key rest good

-- ---- what is read is spelled so

not-none : {A : Type 0} (b : Bool) (r : Option A) (y : A) → cond b None r ≡ Some y → (b ≡ false) × (r ≡ Some y)
not-none true r y e = absurd cc
not-none false r y e = (refl, e)

chosen : {A : Type 0} (b : Bool) (x y z : A) → cond b x y ≡ z → ((b ≡ true) × (x ≡ z)) ⊎ ((b ≡ false) × (y ≡ z))
chosen true x y z e = inl (refl, e)
chosen false x y z e = inr (refl, e)

none-some : {A : Type 0} (y : A) → ◌≡◌ {A = Option A} None (Some y) → ⊥
none-some y e = cc

pub some-is : {A : Type 0} (x y : A) → ◌≡◌ {A = Option A} (Some x) (Some y) → x ≡ y
some-is x y e = cc

-- Bytes begin with this front.
pub record IsFront (bytes : Text) (h : Head) : Type 0 where
  pub rest : Text
  pub parts : bytes ≡ front_of h.0 h.1 ++ rest
  pub key : IsKey h.0
  pub size : IsSize h.1

IsBytes-take : (n : ℕ) (bytes : Text) → IsBytes bytes → IsBytes (take n bytes)
IsBytes-take n bytes h i =
    elim (cases_lt i n) [
      | inl lt ↦ rw (get_or-take n bytes i 0 lt) (h i)
      | inr le ↦ rw (get_or_past (take n bytes) i 0 (omega (arith, length-take n bytes))) (omega arith)
    ]

sized-takes : (key rest : Text) (h : Head) → IsBytes rest → IsKey key → sized_by key rest ≡ Some h → IsFront (1 ∷ (length key ∷ (key ++ rest))) h
unfolding sized_by
sized-takes key rest h fits good e =
    let n = from_le_bytes w32 (take 4 rest) in
    let long = not-none (ltb (length rest) 4) (cond (ltb 65536 n) None (Some (key, Some n))) h e in
    let few = not-none (ltb 65536 n) (Some (key, Some n)) h long.1 in
    let enough : 4 ≤ length rest = ltb-false _ _ long.0 in
    let four : length (take 4 rest) ≡ 4 = omega (arith, length-take 4 rest, enough) in
    let back : to_le_bytes w32 n ≡ take 4 rest = wide32.back (take 4 rest) four (IsBytes-take 4 rest fits) in
    subst (IsFront (1 ∷ (length key ∷ (key ++ rest)))) (some-is (key, Some n) h few.1)
    (record {
      rest = drop 4 rest;
      parts = ap (λ (t : Text). 1 ∷ (length key ∷ t))
          (ap (λ (t : Text). key ++ t) (sym (take-append-drop 4 rest) ∙ ap (λ (t : Text). t ++ drop 4 rest) (sym back))
          ∙ sym (append_assoc key (to_le_bytes w32 n) (drop 4 rest)));
      key = good;
      size = ltb-false _ _ few.0;
    })

kind-takes : (kind : ℕ) (key rest : Text) (h : Head) → IsBytes rest → IsKey key → kind_by kind key rest ≡ Some h → IsFront (kind ∷ (length key ∷ (key ++ rest))) h
unfolding kind_by
kind-takes kind key rest h fits good e =
    elim (chosen (eqb kind 1) (sized_by key rest) (cond (eqb kind 2) (Some (key, None)) None) (Some h) e) [
      | inl one ↦ subst (λ (k : ℕ). IsFront (k ∷ (length key ∷ (key ++ rest))) h) (sym (eqb-true kind 1 one.0)) (sized-takes key rest h fits good one.1)
      | inr other ↦ elim (chosen (eqb kind 2) (Some (key, None)) None (Some h) other.1) [
        | inl two ↦
            subst (λ (k : ℕ). IsFront (k ∷ (length key ∷ (key ++ rest))) h) (sym (eqb-true kind 2 two.0))
            (subst (IsFront (2 ∷ (length key ∷ (key ++ rest)))) (some-is (key, None) h two.1)
            (record { rest = rest; parts = refl; key = good; size = tt }))
        | inr none ↦ absurd (none-some h none.1)
      ]
    ]

key-takes : (kind size : ℕ) (rest : Text) (h : Head) → IsBytes (kind ∷ (size ∷ rest)) → key_by kind size rest ≡ Some h → IsFront (kind ∷ (size ∷ rest)) h
unfolding key_by
key-takes kind size rest h fits e =
    let key = take size rest in
    let tail = drop size rest in
    let some = not-none (eqb size 0) (cond (ltb (length rest) size) None (kind_by kind key tail)) h e in
    let long = not-none (ltb (length rest) size) (kind_by kind key tail) h some.1 in
    let enough : size ≤ length rest = ltb-false _ _ long.0 in
    let is : length key ≡ size = omega (arith, length-take size rest, enough) in
    let least : 0 < size = grind (arith, some.0) in
    let most : size < 256 = fits 1 in
    let good : IsKey key = (omega (arith, is, least), omega (arith, is, most)) in
    subst (λ (t : Text). IsFront (kind ∷ t) h) (ap (λ (n : ℕ). n ∷ (key ++ tail)) is ∙ ap (λ (t : Text). size ∷ t) (take-append-drop size rest))
    (kind-takes kind key tail h (IsBytes-drop size rest (IsBytes-drop 2 (kind ∷ (size ∷ rest)) fits)) good long.1)

pub head-takes : (bytes : Text) (h : Head) → IsBytes bytes → head_at bytes ≡ Some h → IsFront bytes h
unfolding head_at
head-takes [] h fits e = absurd (none-some h e)
head-takes (kind ∷ []) h fits e = absurd (none-some h e)
head-takes (kind ∷ (size ∷ rest)) h fits e = key-takes kind size rest h fits e

-- ---- more bytes behind

pub head-more : (a b : Text) (h : Head) → IsBytes a → head_at a ≡ Some h → head_at (a ++ b) ≡ Some h
head-more a b h fits e =
    let f = head-takes a h fits e in
    ap (λ (t : Text). head_at (t ++ b)) f.parts
    ∙ ap head_at (append_assoc (front_of h.0 h.1) f.rest b)
    ∙ head-again h.0 h.1 (f.rest ++ b) f.key f.size

sized-same : (key rest more : Text) → 4 ≤ length rest → sized_by key (rest ++ more) ≡ sized_by key rest
unfolding sized_by
sized-same key rest more long =
    let a : ltb (length (rest ++ more)) 4 ≡ false = le-ltb _ _ (omega (arith, length-append rest more, long)) in
    let b : ltb (length rest) 4 ≡ false = le-ltb _ _ long in
    rw (a, b, take-append-le 4 rest more long) refl

kind-same : (kind : ℕ) (key rest more : Text) → 4 ≤ length rest → kind_by kind key (rest ++ more) ≡ kind_by kind key rest
unfolding kind_by
kind-same kind key rest more long = ap (λ (r : Option Head). cond (eqb kind 1) r (cond (eqb kind 2) (Some (key, None)) None)) (sized-same key rest more long)

key-same : (kind size : ℕ) (rest more : Text) → size < 256 → 259 ≤ length rest → key_by kind size (rest ++ more) ≡ key_by kind size rest
unfolding key_by
key-same kind size rest more small long =
    let a : ltb (length (rest ++ more)) size ≡ false = le-ltb _ _ (omega (arith, length-append rest more, long, small)) in
    let b : ltb (length rest) size ≡ false = le-ltb _ _ (omega (arith, long, small)) in
    let least : size ≤ length rest = omega (arith, long, small) in
    let enough : 4 ≤ length (drop size rest) = omega (arith, length-drop size rest, long, small) in
    rw (a, b, take-append-le size rest more least, drop-append-le size rest more least, kind-same kind (take size rest) (drop size rest) more enough) refl

pub head-same : (a b : Text) → IsBytes a → 261 ≤ length a → head_at (a ++ b) ≡ head_at a
unfolding head_at
head-same [] b fits long = absurd (omega (arith, long))
head-same (kind ∷ []) b fits long = absurd (omega (arith, long))
head-same (kind ∷ (size ∷ rest)) b fits long = key-same kind size rest b (fits 1) (omega (arith, long))
