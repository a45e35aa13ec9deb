-- What the store has of a working copy that a call hands in, over parts that are kept. This project's own.
use Rattle.std.specs.Prelude.{◌≡◌, ◌≢◌, ℕ, ◌++◌, true, List, is_some, Some}
use Rattle.opfs_books.specs.Laws.Books.{Fixed}
use Rattle.opfs_store.specs.Copies.Copies.{StandsFor}
use Rattle.opfs_data.specs.Rows.{row_of, pages_at}
use Rattle.opfs_hist.specs.declared.entry.Entry.{Entry}
use Rattle.opfs_laws.specs.Histories.Unread.{ArePendingFor}
use Rattle.opfs_machine.specs.Histories.{state_after}
use Rattle.opfs_outside.specs.declared.disk.Disk.{Ghosts as DiskWords}
use Rattle.opfs_pages.specs.Copies.{IsCopy, AreHeld, HasFar}
use Rattle.opfs_pages.specs.Stages.{IsReady}
use Rattle.opfs_records.specs.Replay.Built.{Built}
use Rattle.opfs_laws.specs.Steady.Steady.{row_bytes}
use Rattle.opfs_work.specs.Works.{WorkingCopy}
use Rattle.opfs_pages.specs.HistoryLaws.Told.{AreThere, AreTold}
use Rattle.opfs_desk_steps.specs.Parts.Held.{AreHeldWhole}
use Rattle.opfs_desk_steps.specs.declared.parts.parts.Ledger.{Ledger}
use Rattle.opfs_desk_steps.specs.declared.parts.parts.OpenPages.{OpenPages}

-- The store has what a working copy of an open row says that it has, after the agent's pending calls.
pub record IsStoredCopy {D : Type 0} (w : DiskWords D) (f : Fixed D) (l : Ledger D) (p : OpenPages) (calls : List Entry) (agent row : ℕ) (work : WorkingCopy) : Type 0 where
  pub there : is_some (row_of agent row p.swap) ≡ true
  pub far : HasFar work p.base (w.size l.journal.disk) (pages_at agent row p.swap)
  pub ready : IsReady work p.swap p.space agent row p.base (w.size l.journal.disk) l.journal.areas
  pub copy : w.tells → (bytes : List ℕ) → row_bytes (state_after f.opening (l.books.history ++ calls)) agent row ≡ Some bytes → IsCopy bytes work
  pub held : w.tells → (bytes : List ℕ) → row_bytes (state_after f.opening (l.books.history ++ calls)) agent row ≡ Some bytes → AreHeld bytes work (w.content l.journal.disk) p.base (pages_at agent row p.swap)

-- What the pages tell is known after the pending calls too.
pub record AreTellingAfter {D : Type 0} (w : DiskWords D) (f : Fixed D) (l : Ledger D) (p : OpenPages) (calls : List Entry) : Type 0 where
  pub there : AreThere f.opening (l.books.history ++ calls) p.swap
  pub told : w.tells → AreTold f.opening (l.books.history ++ calls) p.base (w.content l.journal.disk) p.swap

abbrev pub PagesTellAfterPending : {D : Type 0} → DiskWords D → Type 0
PagesTellAfterPending {D} w =
    (f : Fixed D) (recorded : Built) (l : Ledger D) (p : OpenPages) (calls : List Entry) (k : ℕ) → AreHeldWhole w f recorded l p
    → ArePendingFor w.tells (state_after f.opening l.books.history) k calls → AreTellingAfter w f l p calls

abbrev pub CopiesAreStored : {D : Type 0} → DiskWords D → Type 0
CopiesAreStored {D} w =
    (f : Fixed D) (recorded : Built) (l : Ledger D) (p : OpenPages) (calls : List Entry) (agent row : ℕ) (work : WorkingCopy) → AreHeldWhole w f recorded l p
    → ArePendingFor w.tells (state_after f.opening l.books.history) agent calls → row ≢ 0 → StandsFor w.tells f.opening (l.books.history ++ calls) agent row work
    → IsStoredCopy w f l p calls agent row work
