-- Parts of the bytes of files.
use Rattle.std.proofs.Common.{◌≡◌, ℕ, ◌+◌, ◌-◌, ◌≤◌, List, [], ◌∷◌, ◌++◌, min, sym, ap, ◌∙◌, arith}
use Rattle.opfs_base.specs.declared.extents.Extent.{Extent}
use Rattle.opfs_outside.specs.Bytes.{window}
use Rattle.opfs_outside.specs.Windows.{window-append}
use Rattle.opfs_data.specs.Places.{run_place, run_room, bytes_of}
use Rattle.opfs_data.proofs.RunLemmas.{next_bytes}
use Rattle.opfs_dump.specs.Dumping.Pieces.{digits_text}
use Rattle.opfs_dump.proofs.dumping.Digits.{digits_append, no_digits}

-- the first bytes
pub first_digits : (c : List ℕ) (at count : ℕ) → digits_text (window c at count) ≡ digits_text (window c (at + 0) (count - 0))
first_digits c at count =
    let place : at ≡ at + 0 = omega arith in
    let size : count ≡ count - 0 = omega arith in
    ap (λ (x : ℕ). digits_text (window c x count)) place ∙ ap (λ (x : ℕ). digits_text (window c (at + 0) x)) size

-- a piece more
pub next_digits : (c : List ℕ) (at from n count k : ℕ) → from + n ≤ count → k ≡ n
    → digits_text (window c (at + from) (count - from)) ≡ digits_text (window c (at + from) k) ++ digits_text (window c (at + (from + n)) (count - (from + n)))
next_digits c at from n count k fits same =
    let left : count - from ≡ n + (count - (from + n)) = omega (arith, fits) in
    let place : (at + from) + n ≡ at + (from + n) = omega arith in
    ap (λ (x : ℕ). digits_text (window c (at + from) x)) left
    ∙ (ap digits_text (window-append c (at + from) n (count - (from + n)))
    ∙ (digits_append (window c (at + from) n) (window c ((at + from) + n) (count - (from + n)))
    ∙ (ap (λ (x : ℕ). digits_text (window c (at + from) x) ++ digits_text (window c ((at + from) + n) (count - (from + n)))) (sym same)
    ∙ ap (λ (x : ℕ). digits_text (window c (at + from) k) ++ digits_text (window c x (count - (from + n)))) place)))

-- no piece more
pub end_digits : (c : List ℕ) (at from count : ℕ) → count ≤ from → digits_text (window c (at + from) (count - from)) ≡ []
end_digits c at from count done =
    let none : count - from ≡ 0 = omega (arith, done) in
    no_digits (window c (at + from) (count - from)) (ap (λ (x : ℕ). window c (at + from) x) none)

-- a run more
pub next_run : (c : List ℕ) (base : ℕ) (e : Extent) (rest left_over : List Extent) (n left place : ℕ) → left_over ≡ e ∷ rest → n ≡ min (run_room e) left → place ≡ run_place base e
    → digits_text (bytes_of c base left_over left) ≡ digits_text (window c place n) ++ digits_text (bytes_of c base rest (left - n))
next_run c base e rest left_over n left place next is at =
    ap (λ (es : List Extent). digits_text (bytes_of c base es left)) next
    ∙ (ap digits_text (next_bytes c base e rest n left is)
    ∙ (digits_append (window c (run_place base e) n) (bytes_of c base rest (left - n))
    ∙ ap (λ (x : ℕ). digits_text (window c x n) ++ digits_text (bytes_of c base rest (left - n))) (sym at)))

pub end_run : (c : List ℕ) (base left : ℕ) (left_over : List Extent) → left_over ≡ [] → left ≡ 0 → digits_text (bytes_of c base left_over left) ≡ []
end_run c base left left_over none zero_left =
    no_digits (bytes_of c base left_over left) (ap (λ (x : ℕ). bytes_of c base left_over x) zero_left)
