-- Units and the parts that they are read as.
use Rattle.std.proofs.Common.{◌≡◌, ◌==◌, ◌||◌, ◌+◌, ℕ, Bool, true, false, cond, not, [], ◌∷◌, ◌++◌, length, drop, refl, sym, ap, ◌∙◌}
use Rattle.std.proofs.Math.Seq.{drop-append-add}
use Rattle.std.specs.List.{list_any}
use Rattle.std.specs.Cmp.Lexicographic.{same_text as equal_texts}
use Rattle.std.proofs.lemmas.List.Sums.{take_while-cons}
use Rattle.opfs_base.specs.Texts.{Text, same_text}
use Rattle.opfs_base.specs.Units.{hash_sign, default_bucket, unit_of, origin_of, bucket_of}
use Rattle.opfs_base.specs.Keys.{is_origin}

abbrev is_sign : ℕ → Bool
is_sign byte = byte == hash_sign

abbrev has_sign : Text → Bool
has_sign text = list_any is_sign text

-- a text without a sign is all origin
pub origin_of-plain : (text : Text) → has_sign text ≡ false → origin_of text ≡ text
origin_of-plain [] plain = refl
origin_of-plain (x ∷ xs) plain =
    let P = λ (t : Bool). (t || has_sign xs) ≡ false → cond (not t) (x ∷ origin_of xs) [] ≡ x ∷ xs in
    take_while-cons (λ byte. not (is_sign byte)) x xs
    ∙ (elim (is_sign x) as P [ true ↦ λ h. cc | false ↦ λ h. ap (λ r. x ∷ r) (origin_of-plain xs h) ] plain)

-- what stands before the first sign
pub origin_of-append : (origin more : Text) → has_sign origin ≡ false → origin_of (origin ++ 35 ∷ more) ≡ origin
origin_of-append [] more plain = refl
origin_of-append (x ∷ xs) more plain =
    let P = λ (t : Bool). (t || has_sign xs) ≡ false → cond (not t) (x ∷ origin_of (xs ++ 35 ∷ more)) [] ≡ x ∷ xs in
    take_while-cons (λ byte. not (is_sign byte)) x (xs ++ 35 ∷ more)
    ∙ (elim (is_sign x) as P [ true ↦ λ h. cc | false ↦ λ h. ap (λ r. x ∷ r) (origin_of-append xs more h) ] plain)

-- what a text names beside an origin
drop-append_sign : (xs ys : Text) → drop (length xs + 1) (xs ++ 35 ∷ ys) ≡ ys
drop-append_sign xs ys = drop-append-add xs (35 ∷ ys) 1

has_sign-append : (origin more : Text) → has_sign (origin ++ 35 ∷ more) ≡ true
has_sign-append [] more = refl
has_sign-append (x ∷ xs) more =
    elim (is_sign x) as (λ t. (t || has_sign (xs ++ 35 ∷ more)) ≡ true) [ true ↦ refl | false ↦ has_sign-append xs more ]

abbrev bucket_by : Bool → Text → Text
bucket_by test unit = elim test [ true ↦ drop (length (origin_of unit) + 1) unit | false ↦ default_bucket ]

bucket_of-append : (origin bucket : Text) → has_sign origin ≡ false → bucket_of (origin ++ 35 ∷ bucket) ≡ bucket
bucket_of-append origin bucket plain =
    let unit = origin ++ 35 ∷ bucket in
    ap (λ t. bucket_by t unit) (has_sign-append origin bucket)
    ∙ (ap (λ o. drop (length o + 1) unit) (origin_of-append origin bucket plain) ∙ drop-append_sign origin bucket)

-- the origin of an origin's unit
pub origin_of-unit_of : (origin bucket : Text) → has_sign origin ≡ false → origin_of (unit_of origin bucket) ≡ origin
origin_of-unit_of origin bucket plain =
    elim (same_text bucket default_bucket) as (λ t. origin_of (elim t [ true ↦ origin | false ↦ origin ++ 35 ∷ bucket ]) ≡ origin)
    [ true ↦ origin_of-plain origin plain | false ↦ origin_of-append origin bucket plain ]

bucket_by_test : (origin bucket : Text) → has_sign origin ≡ false → (test : Bool) → test ≡ same_text bucket default_bucket → bucket_of (elim test [ true ↦ origin | false ↦ origin ++ 35 ∷ bucket ]) ≡ bucket
bucket_by_test origin bucket plain true told = ap (λ t. bucket_by t origin) plain ∙ sym (equal_texts bucket default_bucket told)
bucket_by_test origin bucket plain false told = bucket_of-append origin bucket plain

-- the bucket of that unit
pub bucket_of-unit_of : (origin bucket : Text) → has_sign origin ≡ false → bucket_of (unit_of origin bucket) ≡ bucket
bucket_of-unit_of origin bucket plain = bucket_by_test origin bucket plain (same_text bucket default_bucket) refl

-- an origin's text has no sign
pub plain-from_is_origin : (text : Text) → is_origin text ≡ true → has_sign text ≡ false
plain-from_is_origin text h = elim (has_sign text) as (λ t. not t ≡ true → t ≡ false) [ true ↦ λ e. sym e | false ↦ λ e. refl ] h
