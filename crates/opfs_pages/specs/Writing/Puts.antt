-- Pages of a row that are ready to be put, have got their blocks, and were put. This project's own.
use Rattle.std.specs.Prelude.{◌≡◌, ℕ, ◌+◌, ◌^◌, ◌<◌, ◌≤◌, ◌++◌, true, List, length, take, is_some, MatchOption}
use Rattle.std.specs.List.{AllByRecursion}
use Rattle.opfs_base.specs.declared.extents.Extent.{Extent}
use Rattle.opfs_blocks.specs.Sets.{free_blocks, marked, blocks_of, AreJoined}
use Rattle.opfs_data.specs.Pages.{page_of, blank, resized, with_writes, runs_of, NamesPage, AreOnce, AreSaved, AreNow, AreOwn, IsAgain}
use Rattle.opfs_data.specs.Places.{AllLie}
use Rattle.opfs_data.specs.Rows.{Rows, row_of, row_at, pages_at, page_at, kept_count, IsOther, OthersStay, AreFree}
use Rattle.opfs_data.specs.Writes.{PageWrite, WriteList, page_writes, page_moves, placed, blocks_in}
use Rattle.opfs_space.specs.Spaces.{SpaceSeen}

-- The rows have the same pages; what is prepared may be another.
pub record HasSamePages (agent row : ℕ) (old new : Rows) : Type 0 where
  pub there : is_some (row_of agent row new) ≡ true
  pub same : pages_at agent row new ≡ pages_at agent row old
  pub others : OthersStay agent row old new
  pub kept : kept_count new ≡ kept_count old

-- A list of pages is ready for a row that has so many pages afterwards: there is memory for the pages, for as many runs of
-- blocks as pages get new ones, and the bytes are saved of pages that are written again in their own blocks.
pub record IsReady (tells : Type 0) (c : List ℕ) (base : ℕ) (swap : Rows) (agent row pages : ℕ) (w : WriteList) (moves room : ℕ) : Type 0 where
  pub there : is_some (row_of agent row swap) ≡ true
  pub count : (given : List ℕ) → length (page_moves w given) ≡ moves
  pub places : length w.runs + length w.moves + moves ≤ w.room
  pub extents : moves ≤ room
  pub room_is : pages ≤ (row_at agent row swap).room
  pub saved : MatchOption (row_at agent row swap).saved ⊥ (λ saved. (given : List ℕ) → AreSaved saved (pages_at agent row swap) (page_writes w given))
  pub now : tells → MatchOption (row_at agent row swap).saved ⊥ (λ saved. AreNow c base (pages_at agent row swap) saved)

-- So many free blocks were taken, those of least number: they are used now, and own.
pub record IsTaken (old new : SpaceSeen) (count : ℕ) (extents : List Extent) : Type 0 where
  pub least : blocks_of extents ≡ take count (free_blocks old.used)
  pub enough : count ≤ length (free_blocks old.used)
  pub joined : AreJoined extents
  pub taken : new ≡ record old { used = marked true (blocks_of extents) old.used; own = marked true (blocks_of extents) old.own }

-- All pages of a list with their blocks, those of extents for the ones that have none yet.
abbrev pub all_writes : WriteList → List ℕ → List Extent → List PageWrite
all_writes w given extents = page_writes w given ++ placed (page_moves w given) (blocks_in extents)

-- The pages of a list have got blocks into which they may be written.
pub record IsPlaced (base end : ℕ) (swap : Rows) (agent row pages : ℕ) (w : WriteList) (given : List ℕ) (extents : List Extent) : Type 0 where
  pub some : AllByRecursion (λ e. 0 < e.count) extents
  pub small : AllByRecursion (λ e. e.start + e.count ≤ 2 ^ 32) extents
  pub runs : length extents ≤ length (blocks_in extents)
  pub blocks : length (page_moves w given) ≡ length (blocks_in extents)
  pub lies : AllLie base end (runs_of (all_writes w given extents))
  pub once : AreOnce (all_writes w given extents)
  pub inside : AllByRecursion (λ x. x.page < pages) (all_writes w given extents)
  pub own : AreOwn (pages_at agent row swap) (all_writes w given extents)
  pub free : AreFree agent row swap (all_writes w given extents)
  pub apart : AllByRecursion (λ x. IsAgain (pages_at agent row swap) x → ⊥) (placed (page_moves w given) (blocks_in extents))

-- Pages of other rows read as before.
abbrev pub OthersRead : ℕ → List ℕ → List ℕ → Rows → Rows → ℕ → ℕ → Type 0
OthersRead base c d old new agent row = (a r : ℕ) → IsOther agent row a r → (j : ℕ) → j < length (pages_at a r old) → page_of d base (page_at a r j new) ≡ page_of c base (page_at a r j old)

-- The pages were put: the row has so many pages, those of the list in their blocks, and the others as they were.
pub record IsPut (tells : Type 0) (base : ℕ) (c d : List ℕ) (old new : Rows) (agent row pages : ℕ) (writes : List PageWrite) : Type 0 where
  pub there : is_some (row_of agent row new) ≡ true
  pub others : OthersStay agent row old new
  pub fewer : kept_count new ≤ kept_count old
  pub pages_are : pages_at agent row new ≡ with_writes writes (resized pages (pages_at agent row old))
  pub size : length (pages_at agent row new) ≡ pages
  pub fresh : (j : ℕ) → length (pages_at agent row old) ≤ j → j < pages → (NamesPage writes j → ⊥) → page_at agent row j new ≡ blank
  pub given : tells → AllByRecursion (λ w. page_of d base (page_at agent row w.page new) ≡ w.bytes) writes
  pub rest : tells → (j : ℕ) → j < pages → j < length (pages_at agent row old) → (NamesPage writes j → ⊥) → page_of d base (page_at agent row j new) ≡ page_of c base (page_at agent row j old)
  pub read : tells → OthersRead base c d old new agent row

-- The disk failed: each page has its block, and reads as before.
pub record IsNotPut (tells : Type 0) (base : ℕ) (c d : List ℕ) (old new : Rows) (agent row : ℕ) : Type 0 where
  pub there : is_some (row_of agent row new) ≡ true
  pub others : OthersStay agent row old new
  pub size : length (pages_at agent row new) ≡ length (pages_at agent row old)
  pub blocks : (j : ℕ) → (page_at agent row j new).block ≡ (page_at agent row j old).block
  pub left : tells → (a r j : ℕ) → j < length (pages_at a r old) → page_of d base (page_at a r j new) ≡ page_of c base (page_at a r j old)
