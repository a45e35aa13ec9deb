-- The keys of a large run's agents.
use Rattle.std.proofs.Common.{◌≡◌, ℕ, ◌+◌, ◌==◌, ◌<◌, ◌≤◌, ◌^◌, ◌||◌, ◌&&◌, Bool, true, false, not, [], ◌∷◌, ◌++◌, codes, decimal, length, Some, refl, sym, ap, ◌∙◌, arith, length-append}
use Rattle.std.specs.List.{list_any}
use Rattle.std.proofs.lemmas.Bool.{and_from, false≢true, le-leb}
use Rattle.std.proofs.lemmas.Bool.Decides.{nat_tests}
use Rattle.std.proofs.lemmas.Fmt.{decimal_is_IsNumeral, length-decimal-le}
use Rattle.std.proofs.lemmas.Str.Parse.{digit_from_value}
use Rattle.std.specs.Str.Parse.{AllDigits}
use Rattle.std.specs.Cmp.Lexicographic.{nat_list_eq_equiv, same_text as equal_texts}
use Rattle.opfs_base.specs.Keys.{is_origin}
use Rattle.opfs_base.specs.Texts.{Text, same_text}
use Rattle.opfs_script.specs.Limits.{is_origin_key, is_short_key}
use Rattle.opfs_transcripts.proofs.told.Apart.{tail-same, same-number}
use Rattle.opfs_gen.specs.Making.{gen_key}

-- No byte of such a text is this one.
abbrev has_byte : ℕ → Text → Bool
has_byte c text = list_any (λ byte. byte == c) text

digit-other : (c d : ℕ) → 48 ≤ d → c < 48 → (d == c) ≡ false
digit-other c d low small = grind (arith, nat_tests)

none-in : (a b : Bool) → a ≡ false → b ≡ false → (a || b) ≡ false
none-in a b h k = λ i. h i || k i

digits-without : (c : ℕ) (ds : Text) → c < 48 → AllDigits 10 ds → has_byte c ds ≡ false
digits-without c [] small all = refl
digits-without c (d ∷ ds) small all = none-in (d == c) (has_byte c ds) (digit-other c d (digit_from_value d all.0).0 small) (digits-without c ds small all.1)

any-append : (c : ℕ) (x y : Text) → has_byte c (x ++ y) ≡ (has_byte c x || has_byte c y)
any-append c [] y = refl
any-append c (d ∷ x) y = ap (λ b. (d == c) || b) (any-append c x y) ∙ or-assoc (d == c) (has_byte c x) (has_byte c y)
  where
    or-assoc : (a b e : Bool) → (a || (b || e)) ≡ ((a || b) || e)
    or-assoc true b e = refl
    or-assoc false b e = refl

key-without : (c k : ℕ) → c < 48 → k < 2 ^ 64 → has_byte c (codes "https://a") ≡ false → has_byte c (codes ".example") ≡ false → has_byte c (gen_key k) ≡ false
key-without c k small few front back =
    any-append c (codes "https://a") (decimal k ++ codes ".example")
    ∙ none-in _ _ front (any-append c (decimal k) (codes ".example") ∙ none-in _ _ (digits-without c (decimal k) small (decimal_is_IsNumeral k few).0.1) back)

pub key-origin : (k : ℕ) → k < 2 ^ 64 → is_origin (gen_key k) ≡ true
key-origin k few = ap not (key-without 35 k (omega arith) few refl refl)

key-short : (k : ℕ) → k < 2 ^ 64 → is_short_key (gen_key k) ≡ true
key-short k few =
    let size : length (gen_key k) ≡ 17 + length (decimal k) =
    length-append (codes "https://a") (decimal k ++ codes ".example") ∙ omega (arith, length-append (decimal k) (codes ".example")) in
    let digits = length-decimal-le 20 k (omega arith) (omega (arith, few)) few in
    and_from _ _ (le-leb 1 (length (gen_key k)) (omega (arith, size))) (le-leb (length (gen_key k)) 255 (omega (arith, size, digits)))

pub key-formed : (k : ℕ) → k < 2 ^ 64 → is_origin_key (Some (gen_key k)) ≡ true
key-formed k few = λ i. key-origin k few i && ap not (key-without 10 k (omega arith) few refl refl) i && key-short k few i

-- Agents of different numbers have different keys.
abbrev behind : ℕ → Text
behind k = decimal k ++ codes ".example"

pub keys-apart : (k j : ℕ) → k < 2 ^ 64 → j < 2 ^ 64 → gen_key k ≡ gen_key j → k ≡ j
keys-apart k j hk hj e = (same-number k j (codes "example") (codes "example") hk hj (dropped (codes "https://a") (behind k) (behind j) e)).0
  where
    dropped : (front x y : Text) → front ++ x ≡ front ++ y → x ≡ y
    dropped [] x y e = e
    dropped (c ∷ front) x y e = dropped front x y (tail-same c c (front ++ x) (front ++ y) e)

pub same-key : (k : ℕ) → same_text (gen_key k) (gen_key k) ≡ true
same-key k = nat_list_eq_equiv.refl (gen_key k)

pub other-key : (k j : ℕ) → k < 2 ^ 64 → j < 2 ^ 64 → (j == k) ≡ false → same_text (gen_key k) (gen_key j) ≡ false
other-key k j hk hj differ =
    elim (same_text (gen_key k) (gen_key j)) as (λ b. same_text (gen_key k) (gen_key j) ≡ b → b ≡ false) [
      | true ↦ λ is. absurd (false≢true (sym differ ∙ test-of k j (keys-apart k j hk hj (equal_texts (gen_key k) (gen_key j) (sym is)))))
      | false ↦ λ is. refl
    ] refl
  where
    test-of : (k j : ℕ) → k ≡ j → (j == k) ≡ true
    test-of k j e = grind (arith, nat_tests)
