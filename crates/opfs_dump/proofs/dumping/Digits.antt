-- Hexadecimal digits, and how they stand in a JSON text.
use Rattle.std.proofs.Common.{◌≡◌, ℕ, zero, suc, ◌<◌, ◌≤◌, ◌/◌, ◌%◌, ◌==◌, ◌&&◌, Bool, true, false, not, List, [], ◌∷◌, ◌++◌, refl, ap, ◌∙◌, slice_index, nat_le, inl, inr, arith}
use Rattle.std.proofs.lemmas.Bool.{cases_lt}
use Rattle.std.proofs.lemmas.List.Concat.{flat_map-append}
use Rattle.hex.specs.Hex.{encode_with, encode_lower, lower_digits, IsBytes}
use Rattle.json.specs.Print.{escape, escape_byte}
use Rattle.json.proofs.Printed.Strings.{escape_byte_plain}
use Rattle.opfs_dump.specs.Dumping.Pieces.{digits_text}

encode_append : (a b : List ℕ) → encode_lower (a ++ b) ≡ encode_lower a ++ encode_lower b
unfolding encode_with
encode_append [] b = refl
encode_append (x ∷ a) b =
    ap (λ (ds : List ℕ). slice_index lower_digits (x / 16) ∷ slice_index lower_digits (x % 16) ∷ ds) (encode_append a b)

pub digits_append : (a b : List ℕ) → digits_text (a ++ b) ≡ digits_text a ++ digits_text b
digits_append a b = ap escape (encode_append a b) ∙ flat_map-append escape_byte (encode_lower a) (encode_lower b)

pub no_digits : (bytes : List ℕ) → bytes ≡ [] → digits_text bytes ≡ []
unfolding encode_with
no_digits bytes none = ap digits_text none

-- a digit stands for itself
abbrev plain_digit : ℕ → Bool
plain_digit k = nat_le 48 (slice_index lower_digits k) && not (slice_index lower_digits k == 92)

abbrev all_plain : ℕ → Bool
all_plain zero = true
all_plain (suc n) = plain_digit n && all_plain n

and_parts : (a b : Bool) → (a && b) ≡ true → (a ≡ true) × (b ≡ true)
and_parts true b h = (refl, h)
and_parts false b h = absurd (let no_way : false ≡ true = h in cc)

plain_below : (n k : ℕ) → all_plain n ≡ true → k < n → plain_digit k ≡ true
plain_below zero k h lt = absurd (omega arith)
plain_below (suc n) k h lt =
    let parts = and_parts (plain_digit n) (all_plain n) h in
    elim (cases_lt k n) [
      | inl below ↦ plain_below n k parts.1 below
      | inr top ↦
          let e : k ≡ n = omega arith in
          rw e parts.0
    ]

plain_byte : (d : ℕ) → (nat_le 48 d && not (d == 92)) ≡ true → escape_byte d ≡ d ∷ []
plain_byte d h =
    let parts = and_parts (nat_le 48 d) (not (d == 92)) h in
    let least : 48 ≤ d = search (arith, parts.0) in
    escape_byte_plain d (λ e. omega arith) (λ e. let bad : not (d == 92) ≡ false = ap (λ (x : ℕ). not (x == 92)) e in cc) (omega arith)

digit_plain : (k : ℕ) → k < 16 → escape_byte (slice_index lower_digits k) ≡ slice_index lower_digits k ∷ []
digit_plain k lt = plain_byte (slice_index lower_digits k) (plain_below 16 k refl lt)

-- so do the digits of bytes
pub digits_plain : (bytes : List ℕ) → IsBytes bytes → digits_text bytes ≡ encode_lower bytes
unfolding encode_with
digits_plain [] h = refl
digits_plain (x ∷ more) h =
    let fits : x < 256 = h 0 in
    let high : escape_byte (slice_index lower_digits (x / 16)) ≡ slice_index lower_digits (x / 16) ∷ [] = digit_plain (x / 16) (omega arith) in
    let low : escape_byte (slice_index lower_digits (x % 16)) ≡ slice_index lower_digits (x % 16) ∷ [] = digit_plain (x % 16) (omega arith) in
    let rest = digits_plain more (λ k. h (suc k)) in
    ap (λ (t : List ℕ). t ++ (escape_byte (slice_index lower_digits (x % 16)) ++ digits_text more)) high
    ∙ (ap (λ (t : List ℕ). slice_index lower_digits (x / 16) ∷ (t ++ digits_text more)) low
    ∙ ap (λ (t : List ℕ). slice_index lower_digits (x / 16) ∷ slice_index lower_digits (x % 16) ∷ t) rest)
