-- What ties the pages of open rows, and the data blocks, to a history. This project's own.
use Rattle.std.specs.Prelude.{◌≡◌, ℕ, ◌*◌, ◌<◌, is_some, List, [], ◌∷◌, ◌++◌, length, Some}
use Rattle.opfs_base.specs.Texts.{Text}
use Rattle.opfs_data.specs.Pages.{page_of}
use Rattle.opfs_data.specs.Rows.{row_of, pages_at, page_at, IsOther, OthersStay}
use Rattle.opfs_hist.specs.declared.entry.Entry.{Entry}
use Rattle.opfs_machine.specs.Histories.{state_after}
use Rattle.opfs_machine.specs.Openings.{Opening}
use Rattle.opfs_pages.specs.Copies.{IsBegun}
use Rattle.opfs_space.specs.Room.{Machine}
use Rattle.opfs_space.specs.Spaces.{SpaceSeen}
use Rattle.opfs_laws.specs.Steady.Steady.{row_bytes}
use Rattle.opfs_pages.specs.HistoryLaws.Hands.{row_in_hand}
use Rattle.opfs_pages.specs.HistoryLaws.Laws.{AllGoOn}
use Rattle.opfs_pages.specs.HistoryLaws.Open.{open_at, OthersStayOpen}
use Rattle.opfs_pages.specs.HistoryLaws.Putting.{AllReadAlike}
use Rattle.opfs_pages.specs.HistoryLaws.Spaced.{Shelf, AreSpaced}
use Rattle.opfs_pages.specs.HistoryLaws.Told.{AreRowed, AreThere, AreTold}

-- There are pages for just the open rows. Each steady page is among them, and where the disk tells it begins as the row's bytes.
-- The space is right for who has which block.
pub record AreLaid (tells : Type 0) (o : Opening) (h : List Entry) (base : ℕ) (c : List ℕ) (m : Machine) (s : Shelf) (space : SpaceSeen) : Type 0 where
  pub rows : AreRowed m s.swap
  pub there : AreThere o h s.swap
  pub told : tells → AreTold o h base c s.swap
  pub spaced : AreSpaced m s space

-- Entries that settle no row, over pages that read as before and open rows that stay.
pub record IsLaidBeside (tells : Type 0) (o : Opening) (h more : List Entry) (base : ℕ) (c d : List ℕ) (m t : Machine) (s r : Shelf) : Type 0 where
  pub go_on : AllGoOn o h more s.swap r.swap
  pub alike : tells → AllReadAlike base c d s.swap r.swap
  pub swap_rows : (k n : ℕ) → is_some (row_of k n r.swap) ≡ is_some (row_of k n s.swap)
  pub open_rows : (k n : ℕ) → is_some (open_at t k n) ≡ is_some (open_at m k n)

-- An entry whose call has one row in hand: pages of the other rows read as before, and all pages of the row are there, and begin
-- as its bytes after the call.
pub record IsLaidInHand (tells : Type 0) (o : Opening) (h : List Entry) (e : Entry) (base : ℕ) (c d : List ℕ) (m t : Machine) (s r : Shelf) : Type 0 where
  pub others : OthersStay e.agent (row_in_hand (state_after o h) e.agent e.op) s.swap r.swap
  pub others_open : OthersStayOpen m t e.agent (row_in_hand (state_after o h) e.agent e.op)
  pub here : is_some (row_of e.agent (row_in_hand (state_after o h) e.agent e.op) r.swap) ≡ is_some (open_at t e.agent (row_in_hand (state_after o h) e.agent e.op))
  pub read : tells → (k n j : ℕ) → IsOther e.agent (row_in_hand (state_after o h) e.agent e.op) k n → j < length (pages_at k n s.swap) → page_of d base (page_at k n j r.swap) ≡ page_of c base (page_at k n j s.swap)
  pub there : (i : ℕ) (bytes : Text) → row_bytes (state_after o (h ++ e ∷ [])) e.agent (row_in_hand (state_after o h) e.agent e.op) ≡ Some bytes → 4096 * i < length bytes
      → i < length (pages_at e.agent (row_in_hand (state_after o h) e.agent e.op) r.swap)
  pub told : tells → (i : ℕ) (bytes : Text) → row_bytes (state_after o (h ++ e ∷ [])) e.agent (row_in_hand (state_after o h) e.agent e.op) ≡ Some bytes → 4096 * i < length bytes
      → IsBegun bytes i (page_of d base (page_at e.agent (row_in_hand (state_after o h) e.agent e.op) i r.swap))
