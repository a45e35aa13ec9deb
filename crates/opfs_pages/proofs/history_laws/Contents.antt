-- The blocks of a row's pages have the row's bytes.
use Rattle.std.proofs.Common.{◌≡◌, ℕ, ◌+◌, ◌*◌, ◌/◌, ◌%◌, ◌<◌, ◌≤◌, ◌++◌, ◌&&◌, is_some, is_none, true, List, [], ◌∷◌, length, map, slice_index, get_or, Option, Some, None, refl, sym, ap, ◌∙◌, arith}
use Rattle.std.specs.List.{AllByRecursion}
use Rattle.std.proofs.lemmas.Grind.{same_number_lists}
use Rattle.std.proofs.lemmas.List.{get_or-take, length-take, map-append}
use Rattle.opfs_base.specs.Blocks.{blocks}
use Rattle.opfs_base.specs.declared.extents.Extent.{Extent}
use Rattle.opfs_blocks.specs.Sets.{blocks_of}
use Rattle.opfs_blocks.specs.Sets.{blocks_in as extent_blocks}
use Rattle.opfs_data.specs.declared.page.Page.{Page}
use Rattle.opfs_data.specs.Pages.{page_of, blank, pages_from, pages_in, is_plain}
use Rattle.opfs_data.specs.Places.{room_of, bytes_of}
use Rattle.opfs_pages.specs.Copies.{IsBegun}
use Rattle.opfs_space.specs.Spaces.{page_blocks, with_block}
use Rattle.opfs_pages.proofs.history_laws.Opened.{runs, run-at, length-runs, opened-length}

-- a page that has a block and nothing kept
abbrev plain_page : ℕ → Page
plain_page b = record { block = Some b; kept = None }

pages-of-blocks : (extents : List Extent) → pages_in extents ≡ map plain_page (blocks_of extents)
pages-of-blocks [] = refl
pages-of-blocks (e ∷ more) = ap (λ (ps : List Page). pages_from e.start e.count ++ ps) (pages-of-blocks more) ∙ sym (map-append plain_page (extent_blocks e) (blocks_of more))

page-is : (p : Page) → is_plain p ≡ true → map plain_page (with_block p.block []) ≡ p ∷ []
page-is p plain = by p.block p.kept refl refl plain
  where
    by : (block : Option ℕ) (kept : Option (List ℕ)) → p.block ≡ block → p.kept ≡ kept → (is_some block && is_none kept) ≡ true → map plain_page (with_block p.block []) ≡ p ∷ []
    by None kept is kept_is plain = absurd cc
    by (Some b) (Some bytes) is kept_is plain = absurd cc
    by (Some b) None is kept_is plain = ap (λ o. map plain_page (with_block o [])) is ∙ ap (λ (q : Page). q ∷ []) (λ i. record { block = sym is i; kept = sym kept_is i })

with-both : (o : Option ℕ) (bs : List ℕ) → with_block o bs ≡ with_block o [] ++ bs
with-both None bs = refl
with-both (Some b) bs = refl

plain-pages : (ps : List Page) → AllByRecursion (λ p. is_plain p ≡ true) ps → map plain_page (page_blocks ps) ≡ ps
plain-pages [] all = refl
plain-pages (p ∷ ps) all =
    ap (map plain_page) (with-both p.block (page_blocks ps)) ∙ map-append plain_page (with_block p.block []) (page_blocks ps)
    ∙ ap (λ (xs : List Page). xs ++ map plain_page (page_blocks ps)) (page-is p all.0) ∙ ap (λ (xs : List Page). p ∷ xs) (plain-pages ps all.1)

-- The pages of the runs are the row's.
pub pages-are : (extents : List Extent) (ps : List Page) → blocks_of extents ≡ page_blocks ps → AllByRecursion (λ p. is_plain p ≡ true) ps → pages_in extents ≡ ps
pages-are extents ps same all = pages-of-blocks extents ∙ ap (map plain_page) same ∙ plain-pages ps all

-- The blocks of a row's pages, each of which has the row's bytes, have all of them.
pub content-bytes : (c : List ℕ) (base : ℕ) (extents : List Extent) (ps : List Page) (bytes : List ℕ) → blocks_of extents ≡ page_blocks ps → AllByRecursion (λ p. is_plain p ≡ true) ps → length ps ≡ blocks (length bytes)
    → ((i : ℕ) → 4096 * i < length bytes → IsBegun bytes i (page_of c base (get_or ps i blank))) → bytes_of c base extents (length bytes) ≡ bytes
content-bytes c base extents ps bytes same all count begun =
    let is : pages_in extents ≡ ps = pages-are extents ps same all in
    let room : room_of extents ≡ 4096 * length ps = sym (opened-length extents) ∙ ap (λ (xs : List Page). 4096 * length xs) is in
    let fits : length bytes ≤ room_of extents = omega (arith, room, count) in
    let size : length (bytes_of c base extents (length bytes)) ≡ length bytes = length-take (length bytes) (runs c base extents) ∙ omega (arith, length-runs c base extents, fits) in
    same_number_lists (bytes_of c base extents (length bytes)) bytes size
    (λ i within.
    let below : i < length bytes = omega (arith, size) in
    let page : ℕ = i / 4096 in
    let rest : ℕ = i % 4096 in
    let place : 4096 * page + rest ≡ i = omega arith in
    let small : rest < 4096 = omega arith in
    let there : IsBegun bytes page (page_of c base (get_or ps page blank)) = begun page (omega (arith, place)) in
    get_or-take (length bytes) (runs c base extents) i 0 below
    ∙ ap (slice_index (runs c base extents)) (sym place)
    ∙ sym (run-at c base extents page rest small (omega (arith, place, fits))).0
    ∙ ap (λ (xs : List Page). slice_index (page_of c base (get_or xs page blank)) rest) is
    ∙ there.at rest small (omega (arith, place)) ∙ ap (slice_index bytes) place)
