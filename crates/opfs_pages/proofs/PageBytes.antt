-- A page's bytes by place, under a write and a cut, and as a working copy has them.
use Rattle.std.proofs.Common.{◌≡◌, ℕ, ◌+◌, ◌-◌, ◌*◌, ◌/◌, ◌%◌, ◌<◌, ◌≤◌, min, max, Bool, true, false, not, List, Some, length, slice_index, drop, replicate, refl, sym, ap, ◌∙◌, inl, inr, arith}
use Rattle.std.specs.List.{slice_range}
use Rattle.std.proofs.lemmas.Bool.{cases_lt}
use Rattle.std.proofs.lemmas.List.{get_or_past, length-take, length-drop, get_or-take, get_or-drop, get_or-replicate, length-replicate}
use Rattle.std.proofs.lemmas.List.FromFn.{length-map-range_with_len, get_or-map-range_with_len}
use Rattle.opfs_base.specs.Blocks.{blocks}
use Rattle.opfs_splice.specs.Splicing.{splice, resize}
use Rattle.opfs_work.specs.declared.pages.Page.{Page}
use Rattle.opfs_work.specs.declared.pages.Page.TheVariants.{Zero, Near, Clean, Far}
use Rattle.opfs_work.specs.Pages.{page_at, byte_at, page_byte, bytes_of, bytes_near, is_zero, is_far, is_near}
use Rattle.opfs_work.specs.Works.{WorkingCopy, IsTouched}
use Rattle.opfs_work.proofs.Laws.{splice_before, splice_inside, splice_behind, length-splice, length-resize, resize_at}
use Rattle.opfs_work.proofs.Places.{near_bytes, byte_in}
use Rattle.opfs_pages.specs.Copies.{IsPageOf, IsBegun, IsCopy}

-- ---- a write

pub not_reached : (old given into : List ℕ) (page at from to : ℕ) → from ≡ max at (4096 * page) → to ≡ min (at + length given) (4096 * page + 4096) → to ≤ from → IsPageOf old page into → IsPageOf (splice old at given) page into
not_reached old given into page at from to from_is to_is none is = record {
  size = is.size;
  at = λ k below.
      is.at k below
      ∙ sym (elim (cases_lt (4096 * page + k) at) [
        | inl before ↦ splice_before old at given (4096 * page + k) before
        | inr past ↦ splice_behind old at given (4096 * page + k) (omega arith)
      ]);
}

pub written_over : (old given into into' chunk : List ℕ) (page at from to offset : ℕ) → from ≡ max at (4096 * page) → to ≡ min (at + length given) (4096 * page + 4096) → from < to → offset ≡ from - 4096 * page
    → length chunk ≡ to - from → ((j : ℕ) → j < to - from → slice_index chunk j ≡ slice_index given (from - at + j))
    → ((k : ℕ) → offset ≤ k → k < offset + length chunk → slice_index into' k ≡ slice_index chunk (k - offset))
    → ((k : ℕ) → k < offset → slice_index into' k ≡ slice_index into k)
    → ((k : ℕ) → offset + length chunk ≤ k → slice_index into' k ≡ slice_index into k)
    → length into' ≡ length into → IsPageOf old page into → IsPageOf (splice old at given) page into'
written_over old given into into' chunk page at from to offset from_is to_is some offset_is size part inside before behind lengths is = record {
  size = lengths ∙ is.size;
  at = λ k below.
      elim (cases_lt k offset) [
        | inl early ↦ before k early ∙ is.at k below ∙ sym (splice_before old at given (4096 * page + k) (omega arith))
        | inr late ↦
            elim (cases_lt k (offset + length chunk)) [
              | inl here ↦
                  inside k late here ∙ part (k - offset) (omega arith) ∙ ap (slice_index given) (omega arith)
                  ∙ sym (splice_inside old at given (4096 * page + k) (omega arith) (omega arith))
              | inr past ↦ behind k past ∙ is.at k below ∙ sym (splice_behind old at given (4096 * page + k) (omega arith))
            ]
      ];
}

-- ---- a cut

pub cut_bytes : (old into into' : List ℕ) (page size offset : ℕ) → offset ≡ min (size - 4096 * page) 4096 → ((k : ℕ) → k < offset → slice_index into' k ≡ slice_index into k)
    → ((k : ℕ) → offset ≤ k → slice_index into' k ≡ 0) → length into' ≡ length into → IsPageOf old page into → IsPageOf (resize old size) page into'
cut_bytes old into into' page size offset offset_is before behind lengths is = record {
  size = lengths ∙ is.size;
  at = λ k below.
      elim (cases_lt k offset) [
        | inl early ↦ before k early ∙ is.at k below ∙ sym (resize_at old size (4096 * page + k) (omega arith))
        | inr late ↦ behind k late ∙ sym (get_or_past (resize old size) (4096 * page + k) 0 (omega (arith, length-resize old size)))
      ];
}

pub filled_bytes : (bytes into into' : List ℕ) (page offset : ℕ) → offset ≡ min (length bytes - 4096 * page) 4096 → ((k : ℕ) → k < offset → slice_index into' k ≡ slice_index into k)
    → ((k : ℕ) → offset ≤ k → slice_index into' k ≡ 0) → length into' ≡ length into → IsBegun bytes page into → IsPageOf bytes page into'
filled_bytes bytes into into' page offset offset_is before behind lengths is = record {
  size = lengths ∙ is.size;
  at = λ k below.
      elim (cases_lt k offset) [
        | inl early ↦ before k early ∙ is.at k below (omega arith)
        | inr late ↦ behind k late ∙ sym (get_or_past bytes (4096 * page + k) 0 (omega arith))
      ];
}

-- ---- a working copy

pub copied_length : (bytes : List ℕ) (work : WorkingCopy) → IsCopy bytes work → length bytes ≡ work.length
unfolding bytes_of
copied_length bytes work is = sym (ap (length {A = ℕ}) is.same) ∙ length-map-range_with_len (byte_at (slice_index bytes) work.pages) 0 work.length

pub copied_at : (bytes : List ℕ) (work : WorkingCopy) (i : ℕ) → IsCopy bytes work → i < work.length → slice_index bytes i ≡ byte_at (slice_index bytes) work.pages i
unfolding bytes_of
copied_at bytes work i is below =
    ap (λ (xs : List ℕ). slice_index xs i) (sym is.same) ∙ get_or-map-range_with_len (byte_at (slice_index bytes) work.pages) 0 work.length i i 0 below (omega arith)

place_of : (page k : ℕ) → k < 4096 → (4096 * page + k) / 4096 ≡ page
place_of page k below = omega arith

rest_of : (page k : ℕ) → k < 4096 → (4096 * page + k) % 4096 ≡ k
rest_of page k below = omega arith

pub near_whole : (bytes near : List ℕ) (work : WorkingCopy) (page : ℕ) → IsCopy bytes work → bytes_near (page_at work.pages page) ≡ Some near → length near ≡ 4096
    → ((i : ℕ) → work.length ≤ i → i / 4096 ≡ page → slice_index near (i % 4096) ≡ 0) → IsPageOf bytes page near
near_whole bytes near work page is there size tail = record {
  size = size;
  at = λ k below.
      elim (cases_lt (4096 * page + k) work.length) [
        | inl inside ↦
            ap (slice_index near) (sym (rest_of page k below))
            ∙ sym (copied_at bytes work (4096 * page + k) is inside ∙ near_bytes (slice_index bytes) work.pages (4096 * page + k) near (ap (λ (n : ℕ). bytes_near (page_at work.pages n)) (place_of page k below) ∙ there))
        | inr past ↦
            ap (slice_index near) (sym (rest_of page k below)) ∙ tail (4096 * page + k) past (place_of page k below)
            ∙ sym (get_or_past bytes (4096 * page + k) 0 (omega (arith, copied_length bytes work is)))
      ];
}

zero_is : (page : Page) → is_zero page ≡ true → page ≡ Zero
zero_is Zero is = refl
zero_is (Near bytes) is = absurd cc
zero_is (Clean bytes) is = absurd cc
zero_is Far is = absurd cc

pub zero_whole : (bytes zeros : List ℕ) (work : WorkingCopy) (page : ℕ) → IsCopy bytes work → is_zero (page_at work.pages page) ≡ true → length zeros ≡ 4096 → ((k : ℕ) → slice_index zeros k ≡ 0) → IsPageOf bytes page zeros
zero_whole bytes zeros work page is zero size all = record {
  size = size;
  at = λ k below.
      all k
      ∙ sym (elim (cases_lt (4096 * page + k) work.length) [
        | inl inside ↦
            copied_at bytes work (4096 * page + k) is inside ∙ byte_in (slice_index bytes) work.pages (4096 * page + k)
            ∙ ap (λ (p : Page). page_byte (slice_index bytes (4096 * page + k)) p ((4096 * page + k) % 4096)) (ap (page_at work.pages) (place_of page k below) ∙ zero_is (page_at work.pages page) zero)
        | inr past ↦ get_or_past bytes (4096 * page + k) 0 (omega (arith, copied_length bytes work is))
      ]);
}

far_is : (page : Page) → is_near page ≡ false → is_zero page ≡ false → is_far page ≡ true
far_is Zero near zero = absurd cc
far_is (Near bytes) near zero = absurd cc
far_is (Clean bytes) near zero = absurd cc
far_is Far near zero = refl

pub is_elsewhere : (page : Page) → is_near page ≡ false → is_zero page ≡ false → is_far page ≡ true
is_elsewhere page near zero = far_is page near zero

pub range_length : (given : List ℕ) (a b n : ℕ) → n ≡ b - a → b ≤ length given → length (slice_range given a b) ≡ n
range_length given a b n is within = omega (arith, length-take (b - a) (drop a given), length-drop a given)

pub range_bytes : (given : List ℕ) (a b j : ℕ) → j < b - a → slice_index (slice_range given a b) j ≡ slice_index given (a + j)
range_bytes given a b j below = get_or-take (b - a) (drop a given) j 0 below ∙ get_or-drop a given j 0

pub zeros_at : (n k : ℕ) → slice_index (replicate n 0) k ≡ 0
zeros_at n k = elim (cases_lt k n) [
  | inl below ↦ get_or-replicate n k 0 0 below
  | inr past ↦ get_or_past (replicate n 0) k 0 (omega (arith, length-replicate {A = ℕ} n 0))
]

pub not_near : (t : Bool) → true ≡ not t → t ≡ false
not_near true is = is
not_near false is = refl

-- past a row's last page all is 0
pub past_whole : (bytes zeros : List ℕ) (work : WorkingCopy) (page : ℕ) → IsCopy bytes work → blocks work.length ≤ page → length zeros ≡ 4096 → ((k : ℕ) → slice_index zeros k ≡ 0) → IsPageOf bytes page zeros
past_whole bytes zeros work page is past size all = record {
  size = size;
  at = λ k below. all k ∙ sym (get_or_past bytes (4096 * page + k) 0 (omega (arith, copied_length bytes work is)));
}

-- ---- the store's pages

pub begun_written : (old given page : List ℕ) (i at : ℕ) → (IsTouched (length old) at (length given) i → ⊥) → IsBegun old i page → IsBegun (splice old at given) i page
begun_written old given page i at apart is = record {
  size = is.size;
  at = λ k below there.
      let whole = length-splice old at given in
      let place : ℕ = 4096 * i + k in
      elim (cases_lt place (length old)) [
        | inl inside ↦
            is.at k below inside
            ∙ sym (elim (cases_lt place at) [
              | inl before ↦ splice_before old at given place before
              | inr past ↦ elim (cases_lt place (at + length given)) [
                | inl in_it ↦ absurd (apart (record { some = omega arith; begins = omega arith; ends = omega arith }))
                | inr behind ↦ splice_behind old at given place behind
              ]
            ])
        | inr over ↦ absurd (apart (record { some = omega arith; begins = omega arith; ends = omega arith }))
      ];
}

pub begun_resized : (old page : List ℕ) (i size : ℕ) → (IsTouched (length old) size 0 i → ⊥) → IsBegun old i page → IsBegun (resize old size) i page
begun_resized old page i size apart is = record {
  size = is.size;
  at = λ k below there.
      let whole = length-resize old size in
      let place : ℕ = 4096 * i + k in
      elim (cases_lt place (length old)) [
        | inl inside ↦ is.at k below inside ∙ sym (resize_at old size place (omega arith))
        | inr over ↦ absurd (apart (record { some = omega arith; begins = omega arith; ends = omega arith }))
      ];
}
