-- The row that a call has in hand, with its pages as the call leaves them, over parts that are kept. This project's own.
use Rattle.std.specs.Prelude.{◌≡◌, ℕ, ◌*◌, ◌<◌, is_some, true, false, List, [], ◌∷◌, ◌++◌, fold, length, None, Some, IsTrue}
use Rattle.opfs_base.specs.Texts.{Text}
use Rattle.opfs_books.specs.Laws.Books.{Fixed}
use Rattle.opfs_data.specs.Pages.{page_of}
use Rattle.opfs_data.specs.Rows.{Rows, row_of, pages_at, page_at, OthersStay}
use Rattle.opfs_pages.specs.HistoryLaws.Hands.{row_in_hand}
use Rattle.opfs_pages.specs.HistoryLaws.Laid.{AreLaid}
use Rattle.opfs_pages.specs.HistoryLaws.Open.{open_at}
use Rattle.opfs_pages.specs.HistoryLaws.Spaced.{Shelf, AreSpaced}
use Rattle.opfs_pages.specs.HistoryLaws.Told.{OthersReadAlike}
use Rattle.opfs_hist.specs.declared.entry.Entry.{Entry}
use Rattle.opfs_laws.specs.Lengths.Outlines.{in_lengths_of}
use Rattle.opfs_machine.specs.declared.own.Own.{Own}
use Rattle.opfs_machine.specs.declared.state.State.{State}
use Rattle.opfs_machine.specs.Agents.{agent_of}
use Rattle.opfs_machine.specs.Histories.{evicted_by}
use Rattle.opfs_machine.specs.Steps.{evicted, after_reply}
use Rattle.opfs_outside.specs.declared.disk.Disk.{Ghosts as DiskWords}
use Rattle.opfs_pages.specs.Copies.{IsBegun}
use Rattle.opfs_records.specs.Replay.Built.{Built}
use Rattle.opfs_space.specs.Spaces.{SpaceSeen}
use Rattle.opfs_laws.specs.Steady.Steady.{row_bytes}
use Rattle.opfs_desk_steps.specs.Parts.Held.{AreHeldAt}
use Rattle.opfs_desk_steps.specs.declared.parts.parts.Ledger.{Ledger}
use Rattle.opfs_desk_steps.specs.declared.parts.parts.OpenPages.{OpenPages}

-- A call is made after these evictions, and has the row in hand.
pub record HasInHand (s : State Text Own) (e : Entry) (row : ℕ) : Type 0 where
  pub plain : evicted_by e.op ≡ None
  pub live : IsTrue (agent_of s e.agent).live
  pub in_hand : row_in_hand s e.agent e.op ≡ row

-- The other rows' pages read as before, in a content that may be another. The row has pages for its bytes, which begin as these
-- where the disk tells.
pub record HasPages (tells : Type 0) (base : ℕ) (c d : List ℕ) (old new : Rows) (agent row : ℕ) (bytes : Text) : Type 0 where
  pub others : OthersStay agent row old new
  pub read : tells → OthersReadAlike base c d old new agent row
  pub here : is_some (row_of agent row new) ≡ true
  pub there : (i : ℕ) → 4096 * i < length bytes → i < length (pages_at agent row new)
  pub told : tells → (i : ℕ) → 4096 * i < length bytes → IsBegun bytes i (page_of d base (page_at agent row i new))

-- The row is not open any more, or never was, and has no pages.
pub record HasNoPages (tells : Type 0) (base : ℕ) (c d : List ℕ) (old new : Rows) (agent row : ℕ) : Type 0 where
  pub others : OthersStay agent row old new
  pub read : tells → OthersReadAlike base c d old new agent row
  pub gone : row_of agent row new ≡ None

pub record RowsInHandAreLaid {D : Type 0} (w : DiskWords D) : Type 0 where
  -- A row that is open after the call.
  pub open_row : (f : Fixed D) (recorded : Built) (base : State Text Own) (gone : List Text) (l : Ledger D) (p : OpenPages) (d : List ℕ) (e : Entry) (row : ℕ) (bytes : Text) (r : Shelf) (space : SpaceSeen)
      → AreHeldAt w f recorded base gone l p → HasInHand (fold evicted base gone) e row → row_bytes (after_reply (fold evicted base gone) e.agent e.op e.reply) e.agent row ≡ Some bytes
      → HasPages w.tells p.base (w.content l.journal.disk) d p.swap r.swap e.agent row bytes → AreSpaced (in_lengths_of (after_reply (fold evicted base gone) e.agent e.op e.reply)) r space
      → AreLaid w.tells f.opening (l.books.history ++ e ∷ []) p.base d (in_lengths_of (after_reply (fold evicted base gone) e.agent e.op e.reply)) r space
  -- One that is not.
  pub closed_row : (f : Fixed D) (recorded : Built) (base : State Text Own) (gone : List Text) (l : Ledger D) (p : OpenPages) (d : List ℕ) (e : Entry) (row : ℕ) (r : Shelf) (space : SpaceSeen)
      → AreHeldAt w f recorded base gone l p → HasInHand (fold evicted base gone) e row → row_bytes (after_reply (fold evicted base gone) e.agent e.op e.reply) e.agent row ≡ None
      → is_some (open_at (in_lengths_of (after_reply (fold evicted base gone) e.agent e.op e.reply)) e.agent row) ≡ false
      → HasNoPages w.tells p.base (w.content l.journal.disk) d p.swap r.swap e.agent row → AreSpaced (in_lengths_of (after_reply (fold evicted base gone) e.agent e.op e.reply)) r space
      → AreLaid w.tells f.opening (l.books.history ++ e ∷ []) p.base d (in_lengths_of (after_reply (fold evicted base gone) e.agent e.op e.reply)) r space
