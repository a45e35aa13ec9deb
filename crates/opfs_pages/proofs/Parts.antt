-- Bytes that were read part after part.
use Rattle.std.proofs.Common.{◌≡◌, ℕ, ◌+◌, ◌-◌, ◌/◌, ◌%◌, ◌<◌, ◌≤◌, List, length, slice_index, drop, sym, ap, ◌∙◌, inl, inr, arith}
use Rattle.std.proofs.lemmas.Bool.{cases_lt}
use Rattle.std.proofs.lemmas.List.{ext_get_or, length-take, length-drop, get_or-take, get_or-drop}
use Rattle.opfs_splice.specs.Splicing.{window}
use Rattle.opfs_pages.specs.Copies.{IsPageOf, IsBegun}

-- the first bytes are a row's, from a position on
abbrev pub IsReadTo : List ℕ → ℕ → ℕ → List ℕ → Type 0
IsReadTo bytes at done into = (k : ℕ) → k < done → slice_index into k ≡ slice_index bytes (at + k)

-- one page more
pub part_read : (bytes page into into' : List ℕ) (at done count place offset number : ℕ) → place ≡ at + done → number ≡ place / 4096 → offset ≡ place % 4096 → offset + count ≤ 4096 → at + done + count ≤ length bytes
    → IsBegun bytes number page → ((k : ℕ) → done ≤ k → k < done + count → slice_index into' k ≡ slice_index page (offset + (k - done))) → ((k : ℕ) → k < done → slice_index into' k ≡ slice_index into k)
    → IsReadTo bytes at done into → IsReadTo bytes at (done + count) into'
part_read bytes page into into' at done count place offset number place_is number_is offset_is inside within is copied before so_far k below = elim (cases_lt k done) [
  | inl early ↦ before k early ∙ so_far k early
  | inr late ↦
      copied k late below
      ∙ (is.at (offset + (k - done)) (omega (arith, inside, late, below)) (omega (arith, place_is, number_is, offset_is, within, late, below))
      ∙ ap (slice_index bytes) (omega (arith, place_is, number_is, offset_is, late)))
]

-- a page that is whole begins as itself
pub whole_begins : (bytes page : List ℕ) (i : ℕ) → IsPageOf bytes i page → IsBegun bytes i page
whole_begins bytes page i is = record { size = is.size; at = λ k below there. is.at k below }

-- all bytes are there
pub all_read : (bytes into : List ℕ) (at done len : ℕ) → length into ≡ len → len ≤ done → at + len ≤ length bytes → IsReadTo bytes at done into → into ≡ window bytes at len
all_read bytes into at done len size all within is =
    ext_get_or 0 into (window bytes at len) (omega (arith, size, within, length-take len (drop at bytes), length-drop at bytes)) (λ i below.
    is i (omega (arith, below, size, all)) ∙ sym (get_or-take len (drop at bytes) i 0 (omega (arith, below, size)) ∙ get_or-drop at bytes i 0))
