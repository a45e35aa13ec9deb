-- Pages of a row as a call leaves them, staged one after another. This project's own.
use Rattle.std.specs.Prelude.{◌≡◌, ◌⊎◌, ℕ, ◌+◌, ◌*◌, ◌<◌, ◌≤◌, Bool, true, List, length, slice_index_or}
use Rattle.opfs_base.specs.Blocks.{blocks}
use Rattle.opfs_blocks.specs.Sets.{Used}
use Rattle.opfs_data.specs.declared.page.Page.{Page}
use Rattle.opfs_data.specs.Pages.{blank, is_plain, IsDataPart}
use Rattle.opfs_data.specs.Rows.{Rows, pages_at, page_at as swap_page}
use Rattle.opfs_data.specs.Writes.{WriteList, HasBytes, page_writes, page_moves}
use Rattle.opfs_space.specs.Holders.{AreAllBelow}
use Rattle.opfs_space.specs.Spaces.{SpaceSeen}
use Rattle.opfs_journal.specs.declared.areas.Areas.{Areas}
use Rattle.opfs_space.specs.Plans.{ArePlanned}
use Rattle.opfs_splice.specs.Splicing.{splice, resize}
use Rattle.opfs_work.specs.Pages.{page_at, is_zero}
use Rattle.opfs_work.specs.Works.{WorkingCopy, IsStored}
use Rattle.opfs_pages.specs.Copies.{IsCopy, AreHeld, HasFar, IsNamed, IsRight}
use Rattle.opfs_pages.specs.declared.row_put.PagePut.{PagePut}
use Rattle.opfs_pages.specs.declared.row_put.PageSource.{PageSource}

-- A row's bytes after a write at a position and then a new size (File System: write a chunk; truncate). A write leaves its own
-- size; a new size and a content write no bytes.
abbrev pub changed : List ℕ → ℕ → List ℕ → ℕ → List ℕ
changed old at given size = resize (splice old at given) size

-- a put writes each byte that its row then has in the page
abbrev pub IsCovered : PagePut → ℕ → Type 0
IsCovered put i = (place : ℕ) → 4096 * i ≤ place → place < 4096 * i + 4096 → place < put.size → (put.at ≤ place) × (place < put.at + length put.given.now)

-- What pages are staged of: the blocks that one page alone has, the pages of all rows, the row, its working copy, the bytes of
-- the disk and where block 0 begins, and the call: bytes at a position, a size, and whether each page has to have a block.
pub record Stage : Type 0 where
  pub own : Used
  pub swap : Rows
  pub agent : ℕ
  pub row : ℕ
  pub work : WorkingCopy
  pub content : List ℕ
  pub base : ℕ
  pub at : ℕ
  pub given : List ℕ
  pub size : ℕ
  pub whole : Bool

-- What pages are staged of, by a call and by what they are read from.
abbrev pub stage_of : PageSource → PagePut → List ℕ → Stage
stage_of source put content = record {
  own = source.space.now.own;
  swap = source.swap.now;
  agent = put.agent;
  row = put.row;
  work = source.work.now;
  content = content;
  base = source.base;
  at = put.at;
  given = put.given.now;
  size = put.size;
  whole = put.whole;
}

-- the page is all zeros, or past the last one
abbrev pub IsEmpty : WorkingCopy → ℕ → Type 0
IsEmpty work i = (length work.pages ≤ i) ⊎ (is_zero (page_at work.pages i) ≡ true)

-- A page of a working copy need not be written: the store has it, or it is empty and nothing is stored of it.
abbrev pub IsAtRestIn : WorkingCopy → List Page → ℕ → Type 0
IsAtRestIn work pages i = ((i < length work.pages) × IsStored work i) ⊎ (IsEmpty work i × (slice_index_or pages i blank ≡ blank))

-- a write of so many bytes at a position writes none of the page
abbrev pub IsUnwritten : ℕ → ℕ → ℕ → Type 0
IsUnwritten at len i = (place : ℕ) → 4096 * i ≤ place → place < 4096 * i + 4096 → at ≤ place → place < at + len → ⊥

-- where the bytes go on, their old end is not in the page
abbrev pub IsWhole : ℕ → ℕ → ℕ → Type 0
IsWhole length size i = length < size → 4096 * i < length → 4096 * i + 4096 ≤ length

-- The call leaves the page's bytes.
pub record IsSpared (s : Stage) (i : ℕ) : Type 0 where
  pub unwritten : IsUnwritten s.at (length s.given) i
  pub whole : IsWhole s.work.length s.size i

-- The call need not write the page, and each page has a block with its bytes where all have to have one.
pub record IsAtRest (s : Stage) (i : ℕ) : Type 0 where
  pub stored : IsAtRestIn s.work (pages_at s.agent s.row s.swap) i
  pub spared : IsSpared s i
  pub block : s.whole ≡ true → is_plain (swap_page s.agent s.row i s.swap) ≡ true

-- the pages of the list are planned, and all are before one
abbrev pub IsPlanned : Stage → ℕ → WriteList → Type 0
IsPlanned s end w = ArePlanned s.own s.swap s.agent s.row end (page_writes w s.given) (page_moves w s.given)

-- The pages of a range were staged. Those of the list keep right, each page of the range is in it or at rest, and no page is
-- named twice.
pub record Stages (tells : Type 0) (s : Stage) (from to : ℕ) (old new : WriteList) : Type 0 where
  pub right : tells → (bytes : List ℕ) → IsCopy bytes s.work → AreHeld bytes s.work s.content s.base (pages_at s.agent s.row s.swap)
      → IsRight (changed bytes s.at s.given s.size) old s.given → IsRight (changed bytes s.at s.given s.size) new s.given
  pub bytes : HasBytes old s.given → HasBytes new s.given
  pub named : (i : ℕ) → IsNamed old s.given i → IsNamed new s.given i
  pub known : (i : ℕ) → from ≤ i → i < to → IsNamed new s.given i ⊎ IsAtRest s i
  pub planned : IsPlanned s from old → IsPlanned s to new

-- A row's pages can be staged: those that are elsewhere are in the store, and all blocks lie on the disk, in the data part.
pub record IsReady (work : WorkingCopy) (swap : Rows) (space : SpaceSeen) (agent row base end : ℕ) (areas : Areas) : Type 0 where
  pub far : HasFar work base end (pages_at agent row swap)
  pub below : AreAllBelow (length space.used) swap
  pub part : IsDataPart areas base

abbrev pub IsReadyFor : PageSource → PagePut → ℕ → Areas → Type 0
IsReadyFor source put end areas = IsReady source.work.now source.swap.now source.space.now put.agent put.row source.base end areas

-- All pages of a row after a call are staged: those of the list have the row's bytes, each of the others is at rest, and no page
-- is named twice.
pub record IsStaged (tells : Type 0) (s : Stage) (w : WriteList) : Type 0 where
  pub right : tells → (bytes : List ℕ) → IsCopy bytes s.work → AreHeld bytes s.work s.content s.base (pages_at s.agent s.row s.swap) → IsRight (changed bytes s.at s.given s.size) w s.given
  pub bytes : HasBytes w s.given
  pub known : (i : ℕ) → i < blocks s.size → IsNamed w s.given i ⊎ IsAtRest s i
  pub planned : IsPlanned s (blocks s.size) w
