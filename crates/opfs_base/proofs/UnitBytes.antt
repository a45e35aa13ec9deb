-- How long a unit is in a change.
use Rattle.std.proofs.Common.{◌≡◌, ◌==◌, ◌||◌, ◌+◌, ◌<◌, ℕ, Bool, true, false, cond, not, [], ◌∷◌, length, drop, refl, sym, ap, ◌∙◌, subst, arith, length-drop}
use Rattle.std.specs.List.{list_any}
use Rattle.std.proofs.lemmas.List.Sums.{take_while-cons}
use Rattle.opfs_base.specs.Texts.{Text}
use Rattle.opfs_base.specs.Units.{hash_sign, default_bucket, origin_of}
use Rattle.opfs_base.specs.Measures.{unit_bytes}

abbrev is_sign : ℕ → Bool
is_sign byte = byte == hash_sign

-- a text with a sign is longer than the origin in front of it
shorter : (text : Text) → list_any is_sign text ≡ true → length (origin_of text) < length text
shorter [] h = cc
shorter (x ∷ xs) h =
    let P = λ (t : Bool). (t || list_any is_sign xs) ≡ true → length (cond (not t) (x ∷ origin_of xs) []) < length (x ∷ xs) in
    subst (λ o. length o < length (x ∷ xs)) (sym (take_while-cons (λ byte. not (is_sign byte)) x xs))
    (elim (is_sign x) as P [ true ↦ λ e. omega arith | false ↦ λ e. let shorter_rest = shorter xs e in omega arith ] h)

abbrev bucket_by : Text → Bool → Text
bucket_by text test = elim test [ true ↦ drop (length (origin_of text) + 1) text | false ↦ default_bucket ]

abbrev bytes_by : Text → Bool → ℕ
bytes_by text test = length (origin_of text) + 1 + length (bucket_by text test)

pub unit_bytes_signed : (text : Text) → list_any is_sign text ≡ true → length text ≡ unit_bytes text
unit_bytes_signed text h =
    let less = shorter text h in
    let dropped = length-drop (length (origin_of text) + 1) text in
    let whole : length text ≡ bytes_by text true = omega arith in
    whole ∙ ap (bytes_by text) (sym h)

plain_origin : (text : Text) → list_any is_sign text ≡ false → origin_of text ≡ text
plain_origin [] h = refl
plain_origin (x ∷ xs) h =
    let P = λ (t : Bool). (t || list_any is_sign xs) ≡ false → cond (not t) (x ∷ origin_of xs) [] ≡ x ∷ xs in
    take_while-cons (λ byte. not (is_sign byte)) x xs
    ∙ (elim (is_sign x) as P [ true ↦ λ e. cc | false ↦ λ e. ap (λ r. x ∷ r) (plain_origin xs e) ] h)

pub unit_bytes_plain : (text : Text) → list_any is_sign text ≡ false → length text + 8 ≡ unit_bytes text
unit_bytes_plain text h =
    let same = ap length (plain_origin text h) in
    let whole : length text + 8 ≡ bytes_by text false = omega arith in
    whole ∙ ap (bytes_by text) (sym h)
