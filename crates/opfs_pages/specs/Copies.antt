-- What a working copy and the pages that the store has of it say of a row's bytes. This project's own.
use Rattle.std.specs.Prelude.{◌≡◌, ◌⊎◌, ℕ, ◌+◌, ◌*◌, ◌<◌, ◌++◌, true, Option, Some, None, List, length, slice_index, slice_index_or}
use Rattle.std.specs.List.{AllByRecursion}
use Rattle.opfs_data.specs.declared.page.Page.{Page}
use Rattle.opfs_data.specs.Writes.{PageWrite, WriteList, page_writes, page_moves}
use Rattle.opfs_data.specs.Pages.{page_of, blank, LiesIn, NamesPage}
use Rattle.opfs_work.specs.Pages.{page_at, is_far}
use Rattle.opfs_work.specs.Works.{WorkingCopy, contents, IsStored}

-- the bytes are a page of a row's, filled up with 0
pub record IsPageOf (bytes : List ℕ) (i : ℕ) (page : List ℕ) : Type 0 where
  pub size : length page ≡ 4096
  pub at : (k : ℕ) → k < 4096 → slice_index page k ≡ slice_index bytes (4096 * i + k)

-- the bytes begin as a page of a row's
pub record IsBegun (bytes : List ℕ) (i : ℕ) (page : List ℕ) : Type 0 where
  pub size : length page ≡ 4096
  pub at : (k : ℕ) → k < 4096 → 4096 * i + k < length bytes → slice_index page k ≡ slice_index bytes (4096 * i + k)

-- a working copy has a row's bytes, where its Far pages have them
pub record IsCopy (bytes : List ℕ) (work : WorkingCopy) : Type 0 where
  pub same : contents (slice_index bytes) work ≡ bytes

-- a page that is elsewhere is one of the store's, which begins as the row's page
abbrev pub IsHeld : List ℕ → WorkingCopy → ℕ → List ℕ → Type 0
IsHeld bytes work i page = is_far (page_at work.pages i) ≡ true → IsBegun bytes i page

-- The store has each page that the working copy says it has: it begins as the row's page.
pub record AreHeld (bytes : List ℕ) (work : WorkingCopy) (c : List ℕ) (base : ℕ) (pages : List Page) : Type 0 where
  pub held : (i : ℕ) → i < length work.pages → IsStored work i → IsBegun bytes i (page_of c base (slice_index_or pages i blank))

-- Each page that is elsewhere is in the store, whose block lies in the data part.
pub record HasFar (work : WorkingCopy) (base end : ℕ) (pages : List Page) : Type 0 where
  pub there : (i : ℕ) → is_far (page_at work.pages i) ≡ true → i < length pages
  pub lies : (i : ℕ) → is_far (page_at work.pages i) ≡ true → LiesIn base end (slice_index_or pages i blank).block

-- the page is one of those that are to be written, in its block or in one that it gets later
abbrev pub IsNamed : WriteList → List ℕ → ℕ → Type 0
IsNamed w given page = NamesPage (page_writes w given) page ⊎ NamesPage (page_moves w given) page

-- The list has these pages more, with their blocks, or, where they have none yet, among those that get one later.
abbrev pub HasMore : Option ℕ → List PageWrite → WriteList → WriteList → List ℕ → Type 0
HasMore (Some block) more old new given = (page_writes new given ≡ page_writes old given ++ more) × (page_moves new given ≡ page_moves old given)
HasMore None more old new given = (page_writes new given ≡ page_writes old given) × (page_moves new given ≡ page_moves old given ++ more)

-- the list has the same pages
abbrev pub HasSame : WriteList → WriteList → List ℕ → Type 0
HasSame old new given = (page_writes new given ≡ page_writes old given) × (page_moves new given ≡ page_moves old given)

-- each page that is to be written has the row's bytes
abbrev pub AreRight : List ℕ → List PageWrite → Type 0
AreRight bytes writes = AllByRecursion (λ w. IsPageOf bytes w.page w.bytes) writes

-- Each page of the list, also one that gets its block later, has the row's bytes.
pub record IsRight (bytes : List ℕ) (w : WriteList) (given : List ℕ) : Type 0 where
  pub writes : AreRight bytes (page_writes w given)
  pub moves : AreRight bytes (page_moves w given)
