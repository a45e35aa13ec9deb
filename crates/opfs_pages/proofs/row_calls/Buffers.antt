-- A buffer that was written whole, and a page that is elsewhere.
use Rattle.std.proofs.Common.{◌≡◌, ℕ, ◌<◌, ◌++◌, true, List, [], ◌∷◌, length, take, drop, slice_index_or, refl, sym, ap, ◌∙◌, append-nil, inl, inr}
use Rattle.std.proofs.lemmas.Bool.{cases_lt, false≢true}
use Rattle.std.proofs.lemmas.List.{get_or_past}
use Rattle.std.proofs.Math.Seq.{take-length}
use Rattle.opfs_data.specs.declared.page.Page.{Page as StoredPage}
use Rattle.opfs_data.specs.Pages.{page_of, blank}
use Rattle.opfs_pages.specs.Copies.{AreHeld, IsBegun}
use Rattle.opfs_work.specs.declared.pages.Page.{Page}
use Rattle.opfs_work.specs.declared.pages.Page.TheVariants.{Zero, Near, Clean, Far}
use Rattle.opfs_work.specs.Pages.{page_at, is_far, is_held}
use Rattle.opfs_work.specs.Works.{WorkingCopy}

drop-whole : (xs : List ℕ) → drop (length xs) xs ≡ []
drop-whole [] = refl
drop-whole (x ∷ xs) = drop-whole xs

drop-all : (xs : List ℕ) (n : ℕ) → n ≡ length xs → drop n xs ≡ []
drop-all xs n is = ap (λ (k : ℕ). drop k xs) is ∙ drop-whole xs

pub buffer-whole : (n : ℕ) (buffer items : List ℕ) → n ≡ length items → length buffer ≡ length items → take n (buffer ++ drop (length buffer) items) ≡ buffer
buffer-whole n buffer items is same =
    ap (λ (xs : List ℕ). take n (buffer ++ xs)) (drop-all items (length buffer) same)
    ∙ ap (take n) (append-nil buffer)
    ∙ ap (λ (k : ℕ). take k buffer) (is ∙ sym same)
    ∙ take-length buffer

far-held : (p : Page) → is_far p ≡ true → is_held p ≡ true
far-held Zero is = absurd (false≢true is)
far-held (Near bytes) is = absurd (false≢true is)
far-held (Clean bytes) is = absurd (false≢true is)
far-held Far is = refl

far-within : (work : WorkingCopy) (i : ℕ) → is_far (page_at work.pages i) ≡ true → i < length work.pages
far-within work i far = elim (cases_lt i (length work.pages)) [
  | inl within ↦ within
  | inr past ↦ absurd (false≢true (ap is_far (sym (get_or_past work.pages i Zero past)) ∙ far))
]

pub held-far : (bytes : List ℕ) (work : WorkingCopy) (c : List ℕ) (base : ℕ) (pages : List StoredPage) (i : ℕ) → AreHeld bytes work c base pages → is_far (page_at work.pages i) ≡ true → IsBegun bytes i (page_of c base (slice_index_or pages i blank))
held-far bytes work c base pages i are far = are.held i (far-within work i far) (λ from to. far-held (page_at work.pages i) far)
