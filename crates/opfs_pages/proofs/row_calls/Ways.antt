-- A working copy in which a page is brought, others gone.
use Rattle.std.proofs.Common.{◌≡◌, ◌⊎◌, ℕ, suc, ◌+◌, ◌*◌, ◌/◌, ◌%◌, ◌<◌, ◌≤◌, ◌++◌, true, false, List, [], ◌∷◌, map, length, replicate, set, slice_index, refl, sym, ap, subst, ◌∙◌, inl, inr, arith}
use Rattle.std.specs.List.{range_with_len}
use Rattle.std.proofs.lemmas.Bool.{false≢true, cases_eq, cases_lt}
use Rattle.std.proofs.lemmas.Grind.{same_number_lists}
use Rattle.std.proofs.lemmas.List.{get_or_past, get_or-set_same, get_or-set_other, get_or-append_right, length-replicate}
use Rattle.std.proofs.lemmas.List.FromFn.{length-map-range_with_len, get_or-map-range_with_len}
use Rattle.std.proofs.lemmas.List.Sums.{sum_by-cons}
use Rattle.opfs_splice.specs.Splicing.{resize}
use Rattle.opfs_work.specs.declared.pages.Page.{Page}
use Rattle.opfs_work.specs.declared.pages.Page.TheVariants.{Zero, Near, Clean, Far}
use Rattle.opfs_work.specs.Pages.{page_at, page_byte, byte_at, bytes_of, is_far, is_held, one_near, near_count}
use Rattle.opfs_work.specs.Works.{WorkingCopy, IsStored}
use Rattle.opfs_work.proofs.Places.{byte_in}
use Rattle.opfs_work.proofs.Laws.{length-resize}
use Rattle.opfs_pages.specs.Copies.{IsPageOf, IsCopy}
use Rattle.opfs_pages.proofs.PageBytes.{copied_at, copied_length}
use Rattle.opfs_pages.proofs.Brought.{brought}

-- each page is elsewhere, or as it was
abbrev pub IsCleared : List Page → List Page → Type 0
IsCleared old new = (k : ℕ) → (is_far (page_at new k) ≡ true) ⊎ (page_at new k ≡ page_at old k)

far-byte : (far place : ℕ) (page : Page) → is_far page ≡ true → page_byte far page place ≡ far
far-byte far place Zero is = absurd (false≢true is)
far-byte far place (Near bytes) is = absurd (false≢true is)
far-byte far place (Clean bytes) is = absurd (false≢true is)
far-byte far place Far is = refl

cleared-byte : (row : List ℕ) (old : WorkingCopy) (new : List Page) (i : ℕ) → IsCopy row old → IsCleared old.pages new → i < old.length → byte_at (slice_index row) new i ≡ slice_index row i
cleared-byte row old new i copy cleared below =
    byte_in (slice_index row) new i
    ∙ elim (cleared (i / 4096)) [
      | inl far ↦ far-byte (slice_index row i) (i % 4096) (page_at new (i / 4096)) far
      | inr same ↦
          ap (λ (p : Page). page_byte (slice_index row i) p (i % 4096)) same
          ∙ (sym (byte_in (slice_index row) old.pages i) ∙ sym (copied_at row old i copy below))
    ]

pub cleared-copy : (row : List ℕ) (old new : WorkingCopy) → new ≡ record old { pages = new.pages } → IsCleared old.pages new.pages → IsCopy row old → IsCopy row new
unfolding bytes_of
cleared-copy row old new is cleared copy =
    subst (IsCopy row) (sym is) (record {
      same = same_number_lists (map (byte_at (slice_index row) new.pages) (range_with_len 0 old.length)) row
          (length-map-range_with_len (byte_at (slice_index row) new.pages) 0 old.length ∙ sym (copied_length row old copy))
          (λ i within.
          let below : i < old.length = omega (arith, length-map-range_with_len (byte_at (slice_index row) new.pages) 0 old.length) in
          get_or-map-range_with_len (byte_at (slice_index row) new.pages) 0 old.length i i 0 below (omega arith)
          ∙ cleared-byte row old new.pages i copy cleared below);
    })

-- nothing is in memory where all pages are elsewhere
far-one : (p : Page) → is_far p ≡ true → one_near p ≡ 0
far-one Zero is = refl
far-one (Near bytes) is = absurd (false≢true is)
far-one (Clean bytes) is = absurd (false≢true is)
far-one Far is = refl

pub none-near : (ps : List Page) → ((k : ℕ) → k < length ps → is_far (page_at ps k) ≡ true) → near_count ps ≡ 0
unfolding near_count
none-near [] far = refl
none-near (p ∷ ps) far =
    let first = far-one p (far 0 (omega arith)) in
    let rest = none-near ps (λ k within. far (suc k) (omega arith)) in
    sum_by-cons one_near p ps ∙ omega (arith, first, rest)

-- a page that stands elsewhere is one that the copy has
pub far-inside : (ps : List Page) (k : ℕ) → is_far (page_at ps k) ≡ true → k < length ps
far-inside ps k far = elim (cases_lt k (length ps)) [
  | inl within ↦ within
  | inr past ↦ absurd (false≢true (ap is_far (sym (get_or_past ps k Zero past)) ∙ far))
]

far-held : (p : Page) → is_far p ≡ true → is_held p ≡ true
far-held Zero is = absurd (false≢true is)
far-held (Near bytes) is = absurd (false≢true is)
far-held (Clean bytes) is = absurd (false≢true is)
far-held Far is = refl

module _ (old mid new : WorkingCopy) (page : ℕ) (bytes : List ℕ) (mid_is : mid ≡ record old { pages = mid.pages }) (cleared : IsCleared old.pages mid.pages) (far : is_far (page_at mid.pages page) ≡ true)
    (is : new ≡ record mid { pages = set mid.pages page (Clean bytes) }) where
  pub way-copy : (row : List ℕ) → IsCopy row old → IsPageOf row page bytes → IsCopy row new
  way-copy row copy whole = brought row bytes mid new page is (cleared-copy row old mid mid_is cleared copy) whole (far-inside mid.pages page far)

  pages_are : new.pages ≡ set mid.pages page (Clean bytes)
  pages_are = ap (λ (w : WorkingCopy). w.pages) is

  pub way-near : is_far (page_at new.pages page) ≡ false
  way-near = ap (λ (ps : List Page). is_far (page_at ps page)) pages_are ∙ ap is_far (get_or-set_same mid.pages page (Clean bytes) Zero (far-inside mid.pages page far))

  held-mid : (k : ℕ) → is_held (page_at old.pages k) ≡ true → is_held (page_at mid.pages k) ≡ true
  held-mid k held = elim (cleared k) [ inl gone ↦ far-held (page_at mid.pages k) gone | inr same ↦ ap is_held same ∙ held ]

  held-new : (k : ℕ) → is_held (page_at mid.pages k) ≡ true → is_held (page_at new.pages k) ≡ true
  held-new k held = ap (λ (ps : List Page). is_held (page_at ps k)) pages_are
      ∙ elim (cases_eq k page) [
        | inl here ↦ ap (λ (n : ℕ). is_held (page_at (set mid.pages page (Clean bytes)) n)) here ∙ ap is_held (get_or-set_same mid.pages page (Clean bytes) Zero (far-inside mid.pages page far))
        | inr apart ↦ ap is_held (get_or-set_other mid.pages page k (Clean bytes) Zero apart) ∙ held
      ]

  pub way-stored : (k : ℕ) → IsStored old k → IsStored new k
  way-stored k stored from to =
      let from_is : new.changed_from ≡ old.changed_from = ap (λ (w : WorkingCopy). w.changed_from) is ∙ ap (λ (w : WorkingCopy). w.changed_from) mid_is in
      let to_is : new.changed_to ≡ old.changed_to = ap (λ (w : WorkingCopy). w.changed_to) is ∙ ap (λ (w : WorkingCopy). w.changed_to) mid_is in
      held-new k (held-mid k (stored (omega (arith, from, from_is)) (omega (arith, to, to_is))))

-- what stands behind the end of a page that was cut
pub cut-tail : (old new : List ℕ) (page size i : ℕ) → length old ≡ 4096 → ((row : List ℕ) → IsPageOf row page old → IsPageOf (resize row size) page new) → size ≤ i → i / 4096 ≡ page → slice_index new (i % 4096) ≡ 0
cut-tail old new page size i whole cut past here =
    let row : List ℕ = replicate (4096 * page) 0 ++ old in
    let is : IsPageOf row page old = record {
      size = whole;
      at = λ k below. sym (get_or-append_right (replicate (4096 * page) 0) old (4096 * page) (4096 * page + k) 0 (length-replicate {A = ℕ} (4096 * page) 0) (omega arith) ∙ ap (λ (n : ℕ). slice_index old n) (omega arith));
    } in
    let after = cut row is in
    let place : 4096 * page + i % 4096 ≡ i = omega (arith, here) in
    after.at (i % 4096) (omega arith) ∙ get_or_past (resize row size) (4096 * page + i % 4096) 0 (omega (arith, length-resize row size, place, past))
