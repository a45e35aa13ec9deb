-- What begins as a page of a row, in two words.
use Rattle.std.proofs.Common.{◌≡◌, ◌⊎◌, ℕ, ◌+◌, ◌-◌, ◌*◌, ◌<◌, min, nat_lt, true, List, length, slice_index, take, drop, Option, Some, None, refl, sym, ap, ◌∙◌, inl, inr, arith}
use Rattle.std.proofs.lemmas.Bool.{cases_eq, false≢true}
use Rattle.std.proofs.lemmas.Bool.Decides.{nat_tests}
use Rattle.std.proofs.lemmas.List.{length-take, length-drop, get_or-take, get_or-drop}
use Rattle.std.proofs.lemmas.Grind.{same_number_lists}
use Rattle.opfs_base.specs.Texts.{Text}
use Rattle.opfs_data.specs.Rows.{IsOther}
use Rattle.opfs_pages.specs.Copies.{IsBegun}
use Rattle.opfs_laws.specs.Steady.Steady.{page_in, has_page, BeginsAs}

page-length : (bytes : List ℕ) (i : ℕ) → length (page_in bytes i) ≡ min 4096 (length bytes - 4096 * i)
page-length bytes i = length-take 4096 (drop (4096 * i) bytes) ∙ ap (min 4096) (length-drop (4096 * i) bytes)

page-at : (bytes : List ℕ) (i k : ℕ) → k < 4096 → slice_index (page_in bytes i) k ≡ slice_index bytes (4096 * i + k)
page-at bytes i k below = get_or-take 4096 (drop (4096 * i) bytes) k 0 below ∙ get_or-drop (4096 * i) bytes k 0

pub begins-begun : (bytes page : List ℕ) (i : ℕ) → length page ≡ 4096 → BeginsAs (Some bytes) i page → IsBegun bytes i page
begins-begun bytes page i size known = record {
  size = size;
  at = λ k below inside.
      let n : ℕ = length (page_in bytes i) in
      let within : k < n = omega (arith, page-length bytes i) in
      sym (get_or-take n page k 0 within) ∙ ap (λ (xs : List ℕ). slice_index xs k) known.1 ∙ page-at bytes i k below;
}

pub begun-begins : (bytes page : List ℕ) (i : ℕ) → 4096 * i < length bytes → IsBegun bytes i page → BeginsAs (Some bytes) i page
begun-begins bytes page i there begun =
    let n : ℕ = length (page_in bytes i) in
    let size : length (take n page) ≡ n = length-take n page ∙ omega (arith, page-length bytes i, begun.size) in (
      there,
      same_number_lists (take n page) (page_in bytes i) size
          (λ k within.
          let below : k < n = omega (arith, size) in
          let small : k < 4096 = omega (arith, page-length bytes i) in
          get_or-take n page k 0 below ∙ begun.at k small (omega (arith, page-length bytes i)) ∙ sym (page-at bytes i k small)),
    )

less : (a b : ℕ) → nat_lt a b ≡ true → a < b
less a b is = grind (arith, nat_tests)

-- A row that has a page has bytes.
pub has-bytes : (row : Option Text) (i : ℕ) → has_page row i ≡ true → (bytes : Text) × (row ≡ Some bytes) × (4096 * i < length bytes)
has-bytes None i is = absurd (false≢true is)
has-bytes (Some bytes) i is = (bytes, refl, less (4096 * i) (length bytes) is)

-- A row is one, or another.
pub other-or : (agent row k n : ℕ) → IsOther agent row k n ⊎ ((k ≡ agent) × (n ≡ row))
other-or agent row k n = elim (cases_eq k agent) [
  | inr apart ↦ inl (λ both. apart both.0)
  | inl same ↦ elim (cases_eq n row) [
    | inr apart ↦ inl (λ both. apart both.1)
    | inl here ↦ inr (same, here)
  ]
]
