-- Pages of working copies in blocks. A page has 4,096 bytes. This project's own.
use Rattle.std.specs.Prelude.{◌≡◌, ℕ, ◌+◌, ◌-◌, ◌*◌, ◌^◌, ◌<◌, ◌++◌, length, take, slice_set, slice_index_or, ◌≤◌, ◌⊎◌, Option, Some, None, is_some, is_none, ◌&&◌, Bool, true, List, [], ◌∷◌, map, replicate}
use Rattle.std.specs.List.{AllByRecursion, flat_map, range_with_len}
use Rattle.opfs_base.specs.declared.extents.Extent.{Extent}
use Rattle.opfs_outside.specs.Bytes.{window}
use Rattle.opfs_journal.specs.declared.areas.Areas.{Areas}
use Rattle.opfs_data.specs.declared.page.Page.{Page}
use Rattle.opfs_data.specs.Writes.{PageWrite}
use Rattle.opfs_data.specs.declared.page.SavedPage.{SavedPage}

-- the bytes of a block, and 4,096 zeros
unfoldable pub block_bytes : List ℕ → ℕ → ℕ → List ℕ
block_bytes c base block = window c (base + 4096 * block) 4096

unfoldable pub zeros : List ℕ
zeros = replicate 4096 0

-- the bytes of a page: those that are kept, and else those of its block, and zeros where it has none
abbrev pub bytes_by : List ℕ → ℕ → Option (List ℕ) → Option ℕ → List ℕ
bytes_by c base (Some kept) block = kept
bytes_by c base None (Some block) = block_bytes c base block
bytes_by c base None None = zeros

abbrev pub page_of : List ℕ → ℕ → Page → List ℕ
page_of c base page = bytes_by c base page.kept page.block

-- the page, or the block, is one of the list
abbrev pub NamesPage : List PageWrite → ℕ → Type 0
NamesPage [] page = ⊥
NamesPage (w ∷ more) page = (w.page ≡ page) ⊎ NamesPage more page

abbrev pub NamesBlock : List PageWrite → ℕ → Type 0
NamesBlock [] block = ⊥
NamesBlock (w ∷ more) block = (w.block ≡ block) ⊎ NamesBlock more block

-- no page and no block is in the list twice
abbrev pub AreOnce : List PageWrite → Type 0
AreOnce [] = Unit {0}
AreOnce (w ∷ more) = (NamesPage more w.page → ⊥) × (NamesBlock more w.block → ⊥) × AreOnce more

-- the runs that the list writes into, each of one block
abbrev pub runs_of : List PageWrite → List Extent
runs_of writes = map (λ w. record { start = w.block; count = 1 }) writes

-- the block, if there is one, ends at this place at the latest
abbrev pub LiesIn : ℕ → ℕ → Option ℕ → Type 0
LiesIn base end None = Unit {0}
LiesIn base end (Some block) = base + 4096 * block + 4096 ≤ end

-- ---- the pages of a row

-- a new page: neither a block nor kept bytes
abbrev pub blank : Page
blank = record { block = None; kept = None }

-- the page has a block, and nothing is kept of it: the block has its bytes
abbrev pub is_plain : Page → Bool
is_plain page = is_some page.block && is_none page.kept

-- the first pages, so many, have a block each
abbrev pub ArePlaced : ℕ → List Page → Type 0
ArePlaced count pages = (count ≤ length pages) × ((i : ℕ) → i < count → is_some (slice_index_or pages i blank).block ≡ true)

-- the pages with these bytes kept, the last one first
abbrev pub keep_at : List Page → ℕ → List ℕ → List Page
keep_at pages page bytes = slice_set pages page (record (slice_index_or pages page blank) { kept = Some bytes })

abbrev pub with_kept : List SavedPage → List Page → List Page
with_kept [] pages = pages
with_kept (s ∷ more) pages = keep_at (with_kept more pages) s.page s.bytes

-- so many pages: those that stay, and new ones
abbrev pub resized : ℕ → List Page → List Page
resized count pages = take count pages ++ replicate (count - length pages) blank

-- the pages with those of the list in their blocks, and nothing kept of them
abbrev pub with_writes : List PageWrite → List Page → List Page
with_writes [] pages = pages
with_writes (w ∷ more) pages = with_writes more (slice_set pages w.page (record { block = Some w.block; kept = None }))

-- the page is to be written again in its own block
abbrev pub IsAgain : List Page → PageWrite → Type 0
IsAgain pages w = (w.page < length pages) × ((slice_index_or pages w.page blank).block ≡ Some w.block)

-- the page is among the saved ones
abbrev pub IsSaved : List SavedPage → ℕ → Type 0
IsSaved [] page = ⊥
IsSaved (s ∷ more) page = (s.page ≡ page) ⊎ IsSaved more page

-- a page of the list that is to be written again in its own block has this number
abbrev pub HasAgain : List Page → List PageWrite → ℕ → Type 0
HasAgain pages [] page = ⊥
HasAgain pages (w ∷ more) page = ((w.page ≡ page) × IsAgain pages w) ⊎ HasAgain pages more page

-- Just the pages of the list that are to be written again in their own block are saved.
pub record AreSaved (saved : List SavedPage) (pages : List Page) (writes : List PageWrite) : Type 0 where
  pub all : AllByRecursion (λ w. IsAgain pages w → IsSaved saved w.page) writes
  pub inside : AllByRecursion (λ s. s.page < length pages) saved
  pub only : AllByRecursion (λ s. HasAgain pages writes s.page) saved

-- what is saved are the pages as they are
abbrev pub AreNow : List ℕ → ℕ → List Page → List SavedPage → Type 0
AreNow c base pages saved = AllByRecursion (λ s. s.bytes ≡ page_of c base (slice_index_or pages s.page blank)) saved

-- each block of the list is that of no page but the one that is written there
abbrev pub AreOwn : List Page → List PageWrite → Type 0
AreOwn pages writes = (k j : ℕ) (d : PageWrite) → k < length writes → j < length pages → (slice_index_or pages j blank).block ≡ Some (slice_index_or writes k d).block → j ≡ (slice_index_or writes k d).page

-- the page's bytes may change where a block of the list is its own and nothing is kept of it
abbrev pub IsApart : Page → List PageWrite → Type 0
IsApart page writes = (k : ℕ) (d : PageWrite) → k < length writes → page.kept ≡ None → page.block ≡ Some (slice_index_or writes k d).block → ⊥

-- a page for each block from one on, and for each block of runs
abbrev pub pages_from : ℕ → ℕ → List Page
pages_from start count = map (λ block. record { block = Some block; kept = None }) (range_with_len start count)

abbrev pub pages_in : List Extent → List Page
pages_in extents = flat_map (λ e. pages_from e.start e.count) extents

-- The pages of a row, the room that there is for pages, and what was saved for the next write, if one is prepared.
pub record RowSeen : Type 0 where
  pub pages : List Page
  pub room : ℕ
  pub saved : Option (List SavedPage)

-- The data part begins at a byte of the disk: behind the areas, and before 2^63.
pub record IsDataPart (areas : Areas) (base : ℕ) : Type 0 where
  pub behind : areas.first + 2 * areas.bytes ≤ base
  pub small : base < 2 ^ 63
