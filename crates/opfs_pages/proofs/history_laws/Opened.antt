-- What the store's pages tell of a row that is opened with its file's blocks.
use Rattle.std.proofs.Common.{◌≡◌, ℕ, zero, suc, ◌+◌, ◌-◌, ◌*◌, ◌<◌, ◌≤◌, List, [], ◌∷◌, length, slice_index, get_or, Some, None, refl, sym, ap, ◌∙◌, inl, inr, arith}
use Rattle.std.specs.List.{flat_map}
use Rattle.std.proofs.lemmas.Bool.{cases_lt}
use Rattle.std.proofs.lemmas.List.{get_or-take, get_or_append_left, get_or-append_right, length-append, length-take}
use Rattle.opfs_base.specs.declared.extents.Extent.{Extent}
use Rattle.opfs_data.specs.declared.page.Page.{Page}
use Rattle.opfs_data.specs.Pages.{page_of, blank, pages_from, pages_in, block_bytes}
use Rattle.opfs_data.specs.Places.{run_bytes, run_room, run_place, room_of, bytes_of}
use Rattle.opfs_outside.specs.Bytes.{window}
use Rattle.opfs_pages.specs.Copies.{IsBegun}

length-window : (c : List ℕ) (at n : ℕ) → length (window c at n) ≡ n
length-window c at zero = refl
length-window c at (suc n) = ap suc (length-window c (at + 1) n)

window-at : (c : List ℕ) (at n k : ℕ) → k < n → slice_index (window c at n) k ≡ slice_index c (at + k)
window-at c at zero k below = absurd (omega arith)
window-at c at (suc n) zero below = ap (slice_index c) (omega arith)
window-at c at (suc n) (suc k) below = window-at c (at + 1) n k (omega arith) ∙ ap (slice_index c) (omega arith)

-- the page of a number among those of runs of blocks
from-at : (start n i : ℕ) → i < n → get_or (pages_from start n) i blank ≡ record { block = Some (start + i); kept = None }
from-at start zero i below = absurd (omega arith)
from-at start (suc n) zero below = ap (λ (b : ℕ). record { block = Some b; kept = None }) (omega arith)
from-at start (suc n) (suc i) below = from-at (start + 1) n i (omega arith) ∙ ap (λ (b : ℕ). record { block = Some b; kept = None }) (omega arith)

length-from : (start n : ℕ) → length (pages_from start n) ≡ n
length-from start zero = refl
length-from start (suc n) = ap suc (length-from (start + 1) n)

abbrev pub runs : List ℕ → ℕ → List Extent → List ℕ
runs c base extents = flat_map (run_bytes c base) extents

pub length-runs : (c : List ℕ) (base : ℕ) (extents : List Extent) → length (runs c base extents) ≡ room_of extents
length-runs c base [] = refl
length-runs c base (e ∷ more) =
    length-append (run_bytes c base e) (runs c base more) ∙ omega (arith, length-window c (run_place base e) (run_room e), length-runs c base more)

block-at : (c : List ℕ) (base b k : ℕ) → k < 4096 → slice_index (block_bytes c base b) k ≡ slice_index c (base + 4096 * b + k)
unfolding block_bytes
block-at c base b k below = window-at c (base + 4096 * b) 4096 k below

block-length : (c : List ℕ) (base b : ℕ) → length (block_bytes c base b) ≡ 4096
unfolding block_bytes
block-length c base b = length-window c (base + 4096 * b) 4096

pub run-at : (c : List ℕ) (base : ℕ) (extents : List Extent) (i k : ℕ) → k < 4096 → 4096 * i + k < room_of extents
    → (slice_index (page_of c base (get_or (pages_in extents) i blank)) k ≡ slice_index (runs c base extents) (4096 * i + k)) × (length (page_of c base (get_or (pages_in extents) i blank)) ≡ 4096)
run-at c base [] i k small below = absurd (omega arith)
run-at c base (e ∷ more) i k small below = elim (cases_lt i e.count) [
  | inl here ↦
      let first : get_or (pages_in (e ∷ more)) i blank ≡ record { block = Some (e.start + i); kept = None } =
      get_or_append_left (pages_from e.start e.count) (pages_in more) blank i (omega (arith, length-from e.start e.count)) ∙ from-at e.start e.count i here
      in
      let inside : 4096 * i + k < run_room e = omega (arith, here, small) in (
        ap (λ (p : Page). slice_index (page_of c base p) k) first ∙ block-at c base (e.start + i) k small ∙ ap (slice_index c) (omega arith)
            ∙ sym (get_or_append_left (run_bytes c base e) (runs c base more) 0 (4096 * i + k) (omega (arith, length-window c (run_place base e) (run_room e))) ∙ window-at c (run_place base e) (run_room e) (4096 * i + k) inside),
        ap (λ (p : Page). length (page_of c base p)) first ∙ block-length c base (e.start + i),
      )
  | inr past ↦
      let later : get_or (pages_in (e ∷ more)) i blank ≡ get_or (pages_in more) (i - e.count) blank = get_or-append_right (pages_from e.start e.count) (pages_in more) e.count i blank (length-from e.start e.count) past in
      let rest = run-at c base more (i - e.count) k small (omega (arith, past, below)) in (
        ap (λ (p : Page). slice_index (page_of c base p) k) later ∙ rest.0
            ∙ sym (get_or-append_right (run_bytes c base e) (runs c base more) (run_room e) (4096 * i + k) 0 (length-window c (run_place base e) (run_room e)) (omega (arith, past)) ∙ ap (slice_index (runs c base more)) (omega (arith, past))),
        ap (λ (p : Page). length (page_of c base p)) later ∙ rest.1,
      )
]

-- A page of a file's blocks begins as the file's bytes.
pub opened-begun : (c : List ℕ) (base : ℕ) (extents : List Extent) (len i : ℕ) → len ≤ room_of extents → 4096 * i < len → IsBegun (bytes_of c base extents len) i (page_of c base (get_or (pages_in extents) i blank))
opened-begun c base extents len i fits there = record {
  size = (run-at c base extents i 0 (omega arith) (omega (arith, fits, there))).1;
  at = λ k small inside.
      let cut : 4096 * i + k < len = omega (arith, inside, length-take len (runs c base extents)) in
      (run-at c base extents i k small (omega (arith, cut, fits))).0 ∙ sym (get_or-take len (runs c base extents) (4096 * i + k) 0 cut);
}

pub opened-length : (extents : List Extent) → 4096 * length (pages_in extents) ≡ room_of extents
opened-length [] = refl
opened-length (e ∷ more) = omega (arith, length-append (pages_from e.start e.count) (pages_in more), length-from e.start e.count, opened-length more)
