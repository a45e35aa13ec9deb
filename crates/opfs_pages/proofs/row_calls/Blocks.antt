-- The blocks of pages, one after another.
use Rattle.std.proofs.Common.{◌≡◌, ℕ, zero, suc, ◌+◌, ◌<◌, ◌≤◌, ◌++◌, List, [], ◌∷◌, length, take, get_or, Option, Some, None, refl, sym, ap, ◌∙◌, append_assoc, append-nil, arith}
use Rattle.std.specs.List.{range_with_len}
use Rattle.opfs_base.specs.declared.extents.Extent.{Extent}
use Rattle.opfs_blocks.specs.Sets.{blocks_of}
use Rattle.opfs_blocks.proofs.SetLemmas.{range_more, blocks_of-append}
use Rattle.opfs_data.specs.declared.page.Page.{Page}
use Rattle.opfs_data.specs.Pages.{blank}
use Rattle.opfs_space.specs.Spaces.{page_blocks, with_block}

with-more : (o : Option ℕ) (xs ys : List ℕ) → with_block o (xs ++ ys) ≡ with_block o xs ++ ys
with-more None xs ys = refl
with-more (Some b) xs ys = refl

-- one page more
pub page-next : (pages : List Page) (i : ℕ) → i < length pages → page_blocks (take (i + 1) pages) ≡ page_blocks (take i pages) ++ with_block (get_or pages i blank).block []
page-next [] i below = absurd (omega arith)
page-next (p ∷ pages) zero below = refl
page-next (p ∷ pages) (suc i) below =
    let e : suc i + 1 ≡ suc (i + 1) = omega arith in
    ap (λ (n : ℕ). page_blocks (take n (p ∷ pages))) e ∙ ap (with_block p.block) (page-next pages i (omega arith)) ∙ with-more p.block (page_blocks (take i pages)) (with_block (get_or pages i blank).block [])

-- a page that has no block
pub page-bare : (pages : List Page) (i : ℕ) → i < length pages → (get_or pages i blank).block ≡ None → page_blocks (take (i + 1) pages) ≡ page_blocks (take i pages)
page-bare pages i below bare = page-next pages i below ∙ ap (λ (o : Option ℕ). page_blocks (take i pages) ++ with_block o []) bare ∙ append-nil (page_blocks (take i pages))

-- pages that have neighbouring blocks
pub page-run : (pages : List Page) (i start count : ℕ) → i + count ≤ length pages → ((k : ℕ) → k < count → (get_or pages (i + k) blank).block ≡ Some (start + k))
    → page_blocks (take (i + count) pages) ≡ page_blocks (take i pages) ++ range_with_len start count
page-run pages i start zero below run =
    let e : i + 0 ≡ i = omega arith in
    ap (λ (n : ℕ). page_blocks (take n pages)) e ∙ sym (append-nil (page_blocks (take i pages)))
page-run pages i start (suc count) below run =
    let e : i + suc count ≡ i + count + 1 = omega arith in
    let n : suc count ≡ count + 1 = omega arith in
    ap (λ (n : ℕ). page_blocks (take n pages)) e
    ∙ page-next pages (i + count) (omega (arith, below))
    ∙ ap (λ (o : Option ℕ). page_blocks (take (i + count) pages) ++ with_block o []) (run count (omega arith))
    ∙ ap (λ (xs : List ℕ). xs ++ (start + count) ∷ []) (page-run pages i start count (omega (arith, below)) (λ k lt. run k (omega (arith, lt))))
    ∙ append_assoc (page_blocks (take i pages)) (range_with_len start count) ((start + count) ∷ [])
    ∙ ap (λ (xs : List ℕ). page_blocks (take i pages) ++ xs) (sym (ap (range_with_len start) n ∙ range_more start count))

-- their run is added
pub run-added : (pages : List Page) (i start count : ℕ) (es new : List Extent) → i + count ≤ length pages → ((k : ℕ) → k < count → (get_or pages (i + k) blank).block ≡ Some (start + k))
    → new ≡ es ++ (record { start = start; count = count }) ∷ [] → blocks_of es ≡ page_blocks (take i pages) → blocks_of new ≡ page_blocks (take (i + count) pages)
run-added pages i start count es new below run is before =
    ap blocks_of is
    ∙ blocks_of-append es ((record { start = start; count = count }) ∷ [])
    ∙ ap (λ (xs : List ℕ). blocks_of es ++ xs) (append-nil (range_with_len start count))
    ∙ ap (λ (xs : List ℕ). xs ++ range_with_len start count) before
    ∙ sym (page-run pages i start count below run)
