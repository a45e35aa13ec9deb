-- What the store's pages tell of the open rows after a history. This project's own.
use Rattle.std.specs.Prelude.{◌≡◌, ℕ, ◌*◌, ◌<◌, true, is_some, List, length, Some}
use Rattle.opfs_base.specs.Texts.{Text}
use Rattle.opfs_data.specs.Pages.{page_of}
use Rattle.opfs_data.specs.Rows.{Rows, row_of, pages_at, page_at, IsOther}
use Rattle.opfs_hist.specs.declared.entry.Entry.{Entry}
use Rattle.opfs_machine.specs.Histories.{state_after}
use Rattle.opfs_machine.specs.Openings.{Opening}
use Rattle.opfs_pages.specs.Copies.{IsBegun}
use Rattle.opfs_space.specs.Room.{Machine}
use Rattle.opfs_laws.specs.Steady.Settling.{NoneSettles}
use Rattle.opfs_laws.specs.Steady.Steady.{row_bytes, is_steady}
use Rattle.opfs_pages.specs.HistoryLaws.Open.{open_at}

-- There are pages for just the open rows.
abbrev pub AreRowed : Machine → Rows → Type 0
AreRowed m swap = (k n : ℕ) → is_some (row_of k n swap) ≡ is_some (open_at m k n)

-- Each steady page is among the pages of its row.
abbrev pub AreThere : Opening → List Entry → Rows → Type 0
AreThere o h swap = (k n i : ℕ) → is_steady o h k n i ≡ true → i < length (pages_at k n swap)

-- The store's page begins as the row's bytes there.
abbrev pub IsToldAt : Opening → List Entry → ℕ → List ℕ → Rows → ℕ → ℕ → ℕ → Type 0
IsToldAt o h base c swap k n i = (bytes : Text) → row_bytes (state_after o h) k n ≡ Some bytes → IsBegun bytes i (page_of c base (page_at k n i swap))

-- Where the disk tells: each steady page begins as the row's bytes.
pub record AreTold (o : Opening) (h : List Entry) (base : ℕ) (c : List ℕ) (swap : Rows) : Type 0 where
  pub begins : (k n i : ℕ) → is_steady o h k n i ≡ true → IsToldAt o h base c swap k n i

-- ---- what happens

-- No entry settles any row but for one.
abbrev pub NoOtherSettles : Opening → List Entry → List Entry → ℕ → ℕ → Type 0
NoOtherSettles o h more agent row = (k n : ℕ) → IsOther agent row k n → NoneSettles (state_after o h) k n more

-- Rows other than one have at least their pages.
abbrev pub OthersHavePages : Rows → Rows → ℕ → ℕ → Type 0
OthersHavePages old new agent row = (k n i : ℕ) → IsOther agent row k n → i < length (pages_at k n old) → i < length (pages_at k n new)

-- The pages of rows other than one read as before.
abbrev pub OthersReadAlike : ℕ → List ℕ → List ℕ → Rows → Rows → ℕ → ℕ → Type 0
OthersReadAlike base c d old new agent row = (k n i : ℕ) → IsOther agent row k n → i < length (pages_at k n old) → page_of d base (page_at k n i new) ≡ page_of c base (page_at k n i old)

-- All pages of one row are there.
abbrev pub HasAllPages : Opening → List Entry → Rows → ℕ → ℕ → Type 0
HasAllPages o h swap agent row = (i : ℕ) (bytes : Text) → row_bytes (state_after o h) agent row ≡ Some bytes → 4096 * i < length bytes → i < length (pages_at agent row swap)

-- And they begin as the row's bytes.
abbrev pub AllAreTold : Opening → List Entry → ℕ → List ℕ → Rows → ℕ → ℕ → Type 0
AllAreTold o h base c swap agent row = (i : ℕ) (bytes : Text) → row_bytes (state_after o h) agent row ≡ Some bytes → 4096 * i < length bytes → IsBegun bytes i (page_of c base (page_at agent row i swap))
