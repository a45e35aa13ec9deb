-- What a sweep sees of a row, page after page.
use Rattle.std.proofs.Common.{◌≡◌, ℕ, zero, suc, ◌+◌, ◌<◌, ◌≤◌, List, [], ◌∷◌, length, drop, get_or, refl, sym, ap, ◌∙◌, arith}
use Rattle.std.specs.List.{AllByRecursion}
use Rattle.opfs_data.specs.declared.page.Page.{Page}
use Rattle.opfs_data.specs.Pages.{blank}
use Rattle.opfs_space.specs.Spaces.{SpaceSeen, block_seen, pages_seen, IsBelow}

next_page : (xs : List Page) (i : ℕ) → i < length xs → drop i xs ≡ get_or xs i blank ∷ drop (i + 1) xs
next_page [] i lt = absurd (omega arith)
next_page (x ∷ xs) zero lt = refl
next_page (x ∷ xs) (suc i) lt =
    let e : suc (i + 1) ≡ suc i + 1 = omega arith in
    next_page xs i (omega arith) ∙ ap (λ (n : ℕ). get_or xs i blank ∷ drop n (x ∷ xs)) e

pub seen_next : (pages : List Page) (i : ℕ) (space space' start : SpaceSeen) → i < length pages → space' ≡ block_seen (get_or pages i blank).block space → pages_seen (drop i pages) space ≡ start → pages_seen (drop (i + 1) pages) space' ≡ start
seen_next pages i space space' start lt is so_far =
    ap (pages_seen (drop (i + 1) pages)) is ∙ sym (ap (λ (ps : List Page). pages_seen ps space) (next_page pages i lt)) ∙ so_far

drop_past : (xs : List Page) (n : ℕ) → length xs ≤ n → drop n xs ≡ []
drop_past [] zero past = refl
drop_past [] (suc n) past = refl
drop_past (x ∷ xs) zero past = absurd (omega arith)
drop_past (x ∷ xs) (suc n) past = drop_past xs n (omega arith)

pub seen_all : (pages : List Page) (i : ℕ) (space start : SpaceSeen) → length pages ≤ i → pages_seen (drop i pages) space ≡ start → space ≡ start
seen_all pages i space start past so_far = ap (λ (ps : List Page). pages_seen ps space) (sym (drop_past pages i past)) ∙ so_far

pub page_below : (size : ℕ) (pages : List Page) (i : ℕ) → i < length pages → AllByRecursion (λ page. IsBelow size page.block) pages → IsBelow size (get_or pages i blank).block
page_below size [] i lt all = absurd (omega arith)
page_below size (x ∷ xs) zero lt all = all.0
page_below size (x ∷ xs) (suc i) lt all = page_below size xs i (omega arith) all.1
