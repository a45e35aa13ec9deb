-- The open rows that a walk has before it.
use Rattle.std.proofs.Common.{◌≡◌, ℕ, suc, ◌<◌, ◌++◌, true, Option, Some, None, List, [], ◌∷◌, length, get_or, set, refl, sym, ap, subst, ◌∙◌}
use Rattle.std.specs.List.{AllByRecursion}
use Rattle.std.specs.Option.{IsSomeAnd, IfSome, IfNone}
use Rattle.opfs_base.specs.Places.{Place}
use Rattle.opfs_blocks.specs.Sets.{Used, marked, blocks_of, AreBelow}
use Rattle.opfs_tree.specs.Rows.{Rows as Tree, rows_above, extents_of}
use Rattle.opfs_tree.specs.declared.row.Row.{Row}
use Rattle.opfs_records.specs.Replay.Built.{named, all_extents}
use Rattle.opfs_blocks.proofs.SetLemmas.{blocks_of-append}
use Rattle.opfs_data.specs.declared.page.Page.{Page}
use Rattle.opfs_data.specs.Pages.{blank}
use Rattle.opfs_data.specs.Rows.{Rows, row_at, pages_at, rows_behind}
use Rattle.opfs_space.specs.Spaces.{SpaceSeen, block_seen, pages_seen, IsBelow}
use Rattle.opfs_space.specs.Holders.{AreAllBelow, all_pages}

-- the row that comes next and those behind it; none where none comes
abbrev pub rest_rows : Option (ℕ × ℕ × ℕ) → Rows → Rows
rest_rows None rows = []
rest_rows (Some r) rows = ((r.0, r.1), row_at r.0 r.1 rows) ∷ rows_behind (Some (r.0, r.1)) rows

abbrev pub IsNext : Option (ℕ × ℕ × ℕ) → Rows → Type 0
IsNext None rows = Unit {0}
IsNext (Some r) rows = r.2 ≡ length (pages_at r.0 r.1 rows)

-- ---- rows of a tree

next_place : (old at : Option Place) (rows : Tree) (r : Row) → IsSomeAnd at (λ place. rows_above old rows ≡ (place, r) ∷ rows_above (Some place) rows) → (place : Place) × (rows_above old rows ≡ (place, r) ∷ rows_above at rows)
next_place old None rows r is = absurd is
next_place old (Some place) rows r is = (place, is)

pub named_next : (old at : Option Place) (rows : Tree) (r : Row) → IsSomeAnd at (λ place. rows_above old rows ≡ (place, r) ∷ rows_above (Some place) rows)
    → named (rows_above old rows) ≡ blocks_of (extents_of r) ++ named (rows_above at rows)
named_next old at rows r is = let found = next_place old at rows r is in ap named found.1 ∙ blocks_of-append (extents_of r) (all_extents (rows_above at rows))

marked_both : (xs ys : List ℕ) (used : Used) → marked true (xs ++ ys) used ≡ marked true ys (marked true xs used)
marked_both [] ys used = refl
marked_both (x ∷ xs) ys used = marked_both xs ys (set used x true)

first_below : (size : ℕ) (xs ys : List ℕ) → AreBelow size (xs ++ ys) → AreBelow size xs
first_below size [] ys all = tt
first_below size (x ∷ xs) ys all = (all.0, first_below size xs ys all.1)

rest_below : (size : ℕ) (xs ys : List ℕ) → AreBelow size (xs ++ ys) → AreBelow size ys
rest_below size [] ys all = all
rest_below size (x ∷ xs) ys all = rest_below size xs ys all.1

-- one row more
pub file_below : (size : ℕ) (all xs ys : List ℕ) → all ≡ xs ++ ys → AreBelow size all → AreBelow size xs
file_below size all xs ys is below = first_below size xs ys (subst (AreBelow size) is below)

pub rest_files_below : (size : ℕ) (all xs ys : List ℕ) → all ≡ xs ++ ys → AreBelow size all → AreBelow size ys
rest_files_below size all xs ys is below = rest_below size xs ys (subst (AreBelow size) is below)

pub marked_next : (all xs ys : List ℕ) (seen start : Used) → all ≡ xs ++ ys → marked true all seen ≡ start → marked true ys (marked true xs seen) ≡ start
marked_next all xs ys seen start is so_far = sym (marked_both xs ys seen) ∙ (ap (λ zs. marked true zs seen) (sym is) ∙ so_far)

-- ---- rows of pages

pages_both : (xs ys : List Page) (space : SpaceSeen) → pages_seen (xs ++ ys) space ≡ pages_seen ys (pages_seen xs space)
pages_both [] ys space = refl
pages_both (x ∷ xs) ys space = pages_both xs ys (block_seen x.block space)

pub pages_size : (pages : List Page) (space : SpaceSeen) → length (pages_seen pages space).used ≡ length space.used
pages_size [] space = refl
pages_size (p ∷ pages) space = pages_size pages (block_seen p.block space) ∙ same p.block space where
  same : (o : Option ℕ) (s : SpaceSeen) → length (block_seen o s).used ≡ length s.used
  same None s = refl
  same (Some b) s = refl

-- what the next call tells is the rest
pub rest_is : (after : ℕ × ℕ) (next : Option (ℕ × ℕ × ℕ)) (rows : Rows) → IfNone next (rows_behind (Some after) rows ≡ [])
    → IfSome next (λ r. rows_behind (Some after) rows ≡ ((r.0, r.1), row_at r.0 r.1 rows) ∷ rows_behind (Some (r.0, r.1)) rows) → rows_behind (Some after) rows ≡ rest_rows next rows
rest_is after None rows none some = none
rest_is after (Some r) rows none some = some

pub next_there : (next : Option (ℕ × ℕ × ℕ)) (rows : Rows) → IfSome next (λ r. r.2 ≡ length (pages_at r.0 r.1 rows)) → IsNext next rows
next_there None rows some = tt
next_there (Some r) rows some = some

pub pages_next : (a r n : ℕ) (now next : Option (ℕ × ℕ × ℕ)) (rows : Rows) (space start : SpaceSeen) → now ≡ Some (a, r, n) → rows_behind (Some (a, r)) rows ≡ rest_rows next rows
    → pages_seen (all_pages (rest_rows now rows)) space ≡ start → pages_seen (all_pages (rest_rows next rows)) (pages_seen (pages_at a r rows) space) ≡ start
pages_next a r n now next rows space start is rest so_far =
    let here : pages_seen (pages_at a r rows ++ all_pages (rows_behind (Some (a, r)) rows)) space ≡ start = ap (λ (x : Option (ℕ × ℕ × ℕ)). pages_seen (all_pages (rest_rows x rows)) space) (sym is) ∙ so_far in
    ap (λ (rs : Rows). pages_seen (all_pages rs) (pages_seen (pages_at a r rows) space)) (sym rest) ∙ (sym (pages_both (pages_at a r rows) (all_pages (rows_behind (Some (a, r)) rows)) space) ∙ here)

all_below : (size : ℕ) (pages : List Page) → ((i b : ℕ) → (get_or pages i blank).block ≡ Some b → b < size) → AllByRecursion (λ page. IsBelow size page.block) pages
all_below size [] below = tt
all_below size (p ∷ pages) below = (λ b is. below 0 b is, all_below size pages (λ i b is. below (suc i) b is))

pub row_below : (size : ℕ) (rows : Rows) (a r : ℕ) → AreAllBelow size rows → AllByRecursion (λ page. IsBelow size page.block) (pages_at a r rows)
row_below size rows a r below = all_below size (pages_at a r rows) (λ i b is. below a r i b is)
