-- Bytes that are read, page by page.
use Rattle.std.proofs.Common.{◌≡◌, ℕ, zero, suc, ◌+◌, ◌-◌, ◌/◌, ◌%◌, ◌≤◌, ◌<◌, false, List, ◌∷◌, ◌++◌, Some, map, length, take, drop, replicate, slice_index, refl, sym, ap, ◌∙◌, arith}
use Rattle.std.specs.List.{range_with_len, slice_range}
use Rattle.std.proofs.lemmas.Grind.{same_number_lists}
use Rattle.std.proofs.lemmas.List.{get_or-take, get_or-drop, length-take, length-drop, get_or-replicate, length-replicate, take_all}
use Rattle.std.proofs.lemmas.List.FromFn.{length-map-range_with_len, get_or-map-range_with_len}
use Rattle.opfs_base.specs.Blocks.{blocks}
use Rattle.opfs_work.specs.declared.pages.Page.{Page}
use Rattle.opfs_work.specs.declared.pages.Page.TheVariants.{Zero, Near, Clean, Far}
use Rattle.opfs_work.specs.Pages.{page_at, page_byte, byte_at, bytes_near, is_near, is_far, IsNearBetween}
use Rattle.opfs_work.proofs.Places.{byte_in, near_bytes}

pub near_none : (pages : List Page) (from to : ℕ) → to ≤ from → IsNearBetween pages from to
unfolding IsNearBetween
near_none pages from to none = λ k some touched reached. absurd (omega arith)

pub near_at : (pages : List Page) (from to k : ℕ) → IsNearBetween pages from to → from < to → from / 4096 ≤ k → k < blocks to → is_far (page_at pages k) ≡ false
unfolding IsNearBetween
near_at pages from to k near some first last = near k some (omega arith) (omega arith)

pub near_all : (pages : List Page) (from to : ℕ) → ((k : ℕ) → from / 4096 ≤ k → k < blocks to → is_far (page_at pages k) ≡ false) → IsNearBetween pages from to
unfolding IsNearBetween
near_all pages from to each = λ k some touched reached. each k (omega arith) (omega arith)

-- a page that is not Far has the same byte whatever Far pages have
same_page : (far place : ℕ) (page : Page) → is_far page ≡ false → page_byte far page place ≡ page_byte 0 page place
same_page far place Zero near = refl
same_page far place (Near bytes) near = refl
same_page far place (Clean bytes) near = refl
same_page far place Far near = absurd cc

pub near_byte : (far : ℕ → ℕ) (pages : List Page) (i : ℕ) → is_far (page_at pages (i / 4096)) ≡ false → byte_at far pages i ≡ byte_at (λ _. 0) pages i
near_byte far pages i near = byte_in far pages i ∙ same_page (far i) (i % 4096) (page_at pages (i / 4096)) near ∙ sym (byte_in (λ _. 0) pages i)

pub near_byte_between : (far : ℕ → ℕ) (pages : List Page) (from to i : ℕ) → IsNearBetween pages from to → from ≤ i → i < to → byte_at far pages i ≡ byte_at (λ _. 0) pages i
near_byte_between far pages from to i near first last = near_byte far pages i (near_at pages from to (i / 4096) near (omega arith) (omega arith) (omega arith))

zero_page : (place : ℕ) (page : Page) → is_near page ≡ false → page_byte 0 page place ≡ 0
zero_page place Zero away = refl
zero_page place (Near bytes) away = absurd cc
zero_page place (Clean bytes) away = absurd cc
zero_page place Far away = refl

-- a page that is not Near counts as zeros
pub zero_byte : (pages : List Page) (i : ℕ) → is_near (page_at pages (i / 4096)) ≡ false → byte_at (λ _. 0) pages i ≡ 0
zero_byte pages i away = byte_in (λ _. 0) pages i ∙ zero_page (i % 4096) (page_at pages (i / 4096)) away

-- ---- parts of one page

same_number : (place j part : ℕ) → place % 4096 + part ≤ 4096 → j < part → (place + j) / 4096 ≡ place / 4096
same_number place j part within below = omega arith

at_place : (place j part : ℕ) → place % 4096 + part ≤ 4096 → j < part → (place + j) % 4096 ≡ place % 4096 + j
at_place place j part within below = omega arith

pub near_part : (pages : List Page) (place part : ℕ) (bytes : List ℕ) → bytes_near (page_at pages (place / 4096)) ≡ Some bytes → length bytes ≡ 4096 → place % 4096 + part ≤ 4096
    → slice_range bytes (place % 4096) (place % 4096 + part) ≡ map (byte_at (λ _. 0) pages) (range_with_len place part)
near_part pages place part bytes is whole within =
    let count = (place % 4096 + part) - place % 4096 in
    let size = length-take count (drop (place % 4096) bytes) in
    let rest = length-drop (place % 4096) bytes in
    same_number_lists (slice_range bytes (place % 4096) (place % 4096 + part)) (map (byte_at (λ _. 0) pages) (range_with_len place part))
    (omega (arith, length-map-range_with_len (byte_at (λ _. 0) pages) place part))
    (λ j below.
    let inside : j < part = omega arith in
    get_or-take count (drop (place % 4096) bytes) j 0 (omega arith) ∙ get_or-drop (place % 4096) bytes j 0
    ∙ sym (get_or-map-range_with_len (byte_at (λ _. 0) pages) place part j (place + j) 0 (omega arith) refl
    ∙ near_bytes (λ _. 0) pages (place + j) bytes (ap (λ (k : ℕ). bytes_near (page_at pages k)) (same_number place j part within inside) ∙ is) ∙ ap (slice_index bytes) (at_place place j part within inside)))

pub zero_part : (pages : List Page) (place part nought : ℕ) → nought ≡ 0 → is_near (page_at pages (place / 4096)) ≡ false → place % 4096 + part ≤ 4096
    → replicate part nought ≡ map (byte_at (λ _. 0) pages) (range_with_len place part)
zero_part pages place part nought is away within =
    same_number_lists (replicate part nought) (map (byte_at (λ _. 0) pages) (range_with_len place part)) (omega (arith, length-replicate part nought, length-map-range_with_len (byte_at (λ _. 0) pages) place part))
    (λ j below.
    let inside : j < part = omega (arith, length-replicate part nought) in
    get_or-replicate part j nought 0 inside ∙ is
    ∙ sym (get_or-map-range_with_len (byte_at (λ _. 0) pages) place part j (place + j) 0 inside refl
    ∙ zero_byte pages (place + j) (ap (λ (k : ℕ). is_near (page_at pages k)) (same_number place j part within inside) ∙ away)))

-- ---- one run behind another

pub run-append : (f : ℕ → ℕ) (n a b m t : ℕ) → b ≡ a + n → t ≡ n + m → map f (range_with_len a n) ++ map f (range_with_len b m) ≡ map f (range_with_len a t)
run-append f zero a b m t start size = ap (λ (k : ℕ). map f (range_with_len k m)) (omega arith) ∙ ap (λ (k : ℕ). map f (range_with_len a k)) (omega arith)
run-append f (suc n) a b m zero start size = absurd (omega arith)
run-append f (suc n) a b m (suc t) start size = ap (λ (xs : List ℕ). f a ∷ xs) (run-append f n (a + 1) b m t (omega arith) (omega arith))

pub padded : (old new : List ℕ) (size count nought : ℕ) → new ≡ take size old ++ replicate (size - length old) nought → size ≡ length old + count → new ≡ old ++ replicate count nought
padded old new size count nought is size_is = is ∙ ap (λ (xs : List ℕ). xs ++ replicate (size - length old) nought) (take_all size old (omega arith)) ∙ ap (λ (n : ℕ). old ++ replicate n nought) (omega arith)
