-- What the tests of a unit show.
use Rattle.std.proofs.Common.{◌≡◌, ◌↔◌, inl, inr, ◌==◌, ◌&&◌, ◌||◌, ◌+◌, ◌-◌, ◌<◌, ◌≤◌, ◌^◌, ℕ, zero, suc, get_or, take, Bool, true, false, cond, not, [], ◌∷◌, ◌++◌, length, drop, refl, sym, ap, subst, ◌∙◌, arith}
use Rattle.std.specs.Prelude.{nat_le}
use Rattle.std.specs.List.{list_any, list_all}
use Rattle.std.proofs.lemmas.Bool.{cases_Bool, and_parts, and_from, leb-true, eqb-true}
use Rattle.std.proofs.lemmas.List.{take_rest}
use Rattle.std.proofs.lemmas.Str.{is_utf8-from_IsUtf8, IsUtf8-from_ascii}
use Rattle.std.proofs.lemmas.List.Sums.{take_while-cons}
use Rattle.opfs_base.specs.Keys.{is_origin}
use Rattle.opfs_base.specs.Texts.{Text, same_text}
use Rattle.opfs_base.specs.Units.{hash_sign, default_bucket, is_letter_or_digit, is_bucket_byte, is_bucket_name, unit_of, origin_of, bucket_of}
use Rattle.opfs_codec.proofs.WritingLemmas.{bucket_behind, bucket_none}
use Rattle.opfs_codec.specs.Spelling.{IsText, IsKey, is_key_text, is_origin_text}
use Rattle.opfs_codec.specs.declared.change.Format.TheVariants.{New}

abbrev is_sign : ℕ → Bool
is_sign byte = byte == hash_sign

-- An origin has no sign.
plain_origin : (t : Text) → list_any is_sign (origin_of t) ≡ false
plain_origin [] = refl
plain_origin (x ∷ xs) =
    ap (list_any is_sign) (take_while-cons (λ byte. not (is_sign byte)) x xs)
    ∙ (elim (is_sign x) as (λ t. is_sign x ≡ t → list_any is_sign (cond (not t) (x ∷ origin_of xs) []) ≡ false) [
      | true ↦ λ is. refl
      | false ↦ λ is. ap (λ t. t || list_any is_sign (origin_of xs)) is ∙ plain_origin xs
    ] refl)

-- A text that is no longer than its origin is its origin.
whole_origin : (t : Text) → length t ≤ length (origin_of t) → origin_of t ≡ t
whole_origin [] le = refl
whole_origin (x ∷ xs) le =
    let P = λ (t : Bool). suc (length xs) ≤ length (cond (not t) (x ∷ origin_of xs) []) → cond (not t) (x ∷ origin_of xs) [] ≡ x ∷ xs in
    let step = take_while-cons (λ byte. not (is_sign byte)) x xs in
    step ∙ (elim (is_sign x) as P [
      | true ↦ λ h. absurd (omega (arith, h))
      | false ↦ λ h. ap (λ ys. x ∷ ys) (whole_origin xs (omega (arith, h)))
    ] (subst (λ (ys : Text). suc (length xs) ≤ length ys) step le))

-- A longer one goes on with the sign.
split_origin : (t : Text) → length (origin_of t) < length t → origin_of t ++ 35 ∷ drop (suc (length (origin_of t))) t ≡ t
split_origin [] lt = absurd (omega (arith, lt))
split_origin (x ∷ xs) lt =
    let P = λ (o : Text). o ++ 35 ∷ drop (suc (length o)) (x ∷ xs) ≡ x ∷ xs in
    let step = take_while-cons (λ byte. not (is_sign byte)) x xs in
    subst P (sym step) (elim (is_sign x) as (λ t. is_sign x ≡ t → length (cond (not t) (x ∷ origin_of xs) []) < suc (length xs) → P (cond (not t) (x ∷ origin_of xs) [])) [
      | true ↦ λ is h. ap (λ y. y ∷ xs) (sym (eqb-true x 35 is))
      | false ↦ λ is h. ap (λ ys. x ∷ ys) (split_origin xs (omega (arith, h)))
    ] refl (subst (λ (ys : Text). length ys < suc (length xs)) step lt))

key_length : (t : Text) → is_key_text t ≡ true → length t < 2 ^ 16
key_length t h = let parts = and_parts (nat_le 1 (length t)) (nat_le (length t) 255) h in omega (arith, leb-true (length t) 255 parts.1)

bucket_length : (t : Text) → is_bucket_name t ≡ true → length t < 2 ^ 8
bucket_length [] h = absurd cc
bucket_length (x ∷ xs) h =
    let parts = and_parts (is_letter_or_digit x && list_all is_bucket_byte xs) (nat_le (length xs) 63) h in
    omega (arith, leb-true (length xs) 63 parts.1)

origin_text : (t : Text) → is_key_text (origin_of t) ≡ true → is_origin_text (origin_of t) ≡ true
origin_text t h = and_from (is_key_text (origin_of t)) _ h (ap not (plain_origin t))

default_ascii : (i : ℕ) → get_or default_bucket i 0 < 128
default_ascii zero = omega arith
default_ascii (suc zero) = omega arith
default_ascii (suc (suc zero)) = omega arith
default_ascii (suc (suc (suc zero))) = omega arith
default_ascii (suc (suc (suc (suc zero)))) = omega arith
default_ascii (suc (suc (suc (suc (suc zero))))) = omega arith
default_ascii (suc (suc (suc (suc (suc (suc zero)))))) = omega arith
default_ascii (suc (suc (suc (suc (suc (suc (suc i))))))) = omega arith

default_name : IsText is_bucket_name default_bucket × (length default_bucket < 2 ^ 8)
default_name = ((is_utf8-from_IsUtf8 default_bucket (IsUtf8-from_ascii default_bucket default_ascii), refl), omega arith)

-- A text without a sign is the key of its default bucket.
pub plain_key : (unit : Text) → length unit ≤ length (origin_of unit) → IsText is_key_text unit ↔ IsKey New unit
plain_key unit le = (
  λ good.
      let text = subst (λ (t : Text). IsText is_key_text t) (sym (whole_origin unit le)) good in
      let named = subst (λ (t : Text). IsText is_bucket_name t × (length t < 2 ^ 8)) (sym (bucket_none unit le)) default_name in
      let whole : unit_of (origin_of unit) (bucket_of unit) ≡ unit = ap (unit_of (origin_of unit)) (bucket_none unit le) ∙ whole_origin unit le in
      (((text.0, origin_text unit text.1), key_length (origin_of unit) text.1), named, whole),
  λ key.
      subst (λ (t : Text). IsText is_key_text t) (whole_origin unit le) (key.0.0.0, (and_parts (is_key_text (origin_of unit)) (is_origin (origin_of unit)) key.0.0.1).0),
)

origin_le : (t : Text) → length (origin_of t) ≤ length t
origin_le [] = omega arith
origin_le (x ∷ xs) =
    let step = take_while-cons (λ byte. not (is_sign byte)) x xs in
    omega (arith, ap length step, cond_le (is_sign x) (length xs) (length (origin_of xs)) (origin_le xs), cond_length (is_sign x) x (origin_of xs))
  where
    cond_length : (t : Bool) (y : ℕ) (ys : Text) → length (cond (not t) (y ∷ ys) []) ≡ cond t 0 (suc (length ys))
    cond_length true y ys = refl
    cond_length false y ys = refl

    cond_le : (t : Bool) (n k : ℕ) → k ≤ n → cond t 0 (suc k) ≤ suc n
    cond_le true n k le = omega arith
    cond_le false n k le = omega (arith, le)

take_front : (xs ys : Text) → take (length xs) (xs ++ ys) ≡ xs
take_front [] ys = refl
take_front (x ∷ xs) ys = ap (λ zs. x ∷ zs) (take_front xs ys)

abbrev unit_by : Bool → Text → Text → Text
unit_by test origin bucket = elim test [ true ↦ origin | false ↦ origin ++ 35 ∷ bucket ]

-- What stands before the sign and behind it.
parts_of : (unit origin front behind : Text) → origin ≡ origin_of unit → (length origin ≡ length unit → ⊥) → front ≡ take (length origin) unit → behind ≡ take (length unit - (length origin + 1)) (drop (length origin + 1) unit)
    → (length (origin_of unit) < length unit) × (front ≡ origin_of unit) × (bucket_of unit ≡ behind) × (behind ≡ drop (suc (length (origin_of unit))) unit)
parts_of unit origin front behind is longer is_front is_behind =
    let lt : length (origin_of unit) < length unit = omega (arith, origin_le unit, longer, ap length is) in
    let count : length origin + 1 ≡ suc (length (origin_of unit)) = omega (arith, ap length is) in
    let rest : behind ≡ drop (suc (length (origin_of unit))) unit = is_behind ∙ take_rest unit (length origin + 1) ∙ ap (λ n. drop n unit) count in
    let before : front ≡ origin_of unit =
    is_front ∙ ap (λ (o : Text). take (length o) unit) is ∙ ap (take (length (origin_of unit))) (sym (split_origin unit lt)) ∙ take_front (origin_of unit) (35 ∷ drop (suc (length (origin_of unit))) unit) in
    let same : bucket_of unit ≡ behind = bucket_behind unit lt ∙ ap (λ n. drop n unit) (sym (ap (λ (o : Text). length o + 1) is) ∙ count) ∙ sym rest in
    (lt, before, same, rest)

named_whole : (unit behind : Text) → length (origin_of unit) < length unit → behind ≡ drop (suc (length (origin_of unit))) unit → same_text behind default_bucket ≡ false → unit_of (origin_of unit) behind ≡ unit
named_whole unit behind lt rest other = ap (λ t. unit_by t (origin_of unit) behind) other ∙ ap (λ b. origin_of unit ++ 35 ∷ b) rest ∙ split_origin unit lt

default_whole : (unit behind : Text) → length (origin_of unit) < length unit → unit_of (origin_of unit) behind ≡ unit → same_text behind default_bucket ≡ false
default_whole unit behind lt whole =
    elim (cases_Bool (same_text behind default_bucket)) [
      | inl is ↦ absurd (omega (arith, lt, ap length (sym (ap (λ t. unit_by t (origin_of unit) behind) is) ∙ whole)))
      | inr isn ↦ isn
    ]

-- A text with a sign is a key exactly where it names a bucket that is not the default one.
pub named_key : (unit origin front behind : Text) → origin ≡ origin_of unit → (length origin ≡ length unit → ⊥) → front ≡ take (length origin) unit → behind ≡ take (length unit - (length origin + 1)) (drop (length origin + 1) unit)
    → (IsText is_key_text front × (IsText is_bucket_name behind × (same_text behind default_bucket ≡ false))) ↔ IsKey New unit
named_key unit origin front behind is longer is_front is_behind = (
  λ h.
      let p = parts_of unit origin front behind is longer is_front is_behind in
      let good_text = subst (λ (t : Text). IsText is_key_text t) p.1 h.0 in
      let good = subst (λ (t : Text). IsText is_bucket_name t × (length t < 2 ^ 8)) (sym p.2) (h.1.0, bucket_length behind h.1.0.1) in
      (((good_text.0, origin_text unit good_text.1), key_length (origin_of unit) good_text.1), good, ap (unit_of (origin_of unit)) p.2 ∙ named_whole unit behind p.0 p.3 h.1.1),
  λ key.
      let p = parts_of unit origin front behind is longer is_front is_behind in
      let text : IsText is_key_text (origin_of unit) = (key.0.0.0, (and_parts (is_key_text (origin_of unit)) (is_origin (origin_of unit)) key.0.0.1).0) in
      let other = default_whole unit behind p.0 (ap (unit_of (origin_of unit)) (sym p.2) ∙ key.2) in
      (subst (λ (t : Text). IsText is_key_text t) (sym p.1) text, (subst (λ (t : Text). IsText is_bucket_name t) p.2 key.1.0, other)),
)
