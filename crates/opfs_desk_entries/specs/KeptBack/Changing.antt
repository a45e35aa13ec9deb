-- A call is entered with its change, which is kept back or committed; or the disk failed as it was committed. This project's own.
use Rattle.std.specs.Prelude.{◌≡◌, ◌⊎◌, ◌≤◌, List, [], ◌∷◌, ◌++◌, None}
use Rattle.opfs_base.specs.Texts.{Text}
use Rattle.opfs_books.specs.Laws.Books.{Fixed, AreBooks}
use Rattle.opfs_books.specs.Laws.Laws.{ShowsTold, told, failed}
use Rattle.opfs_books.specs.Seen.{stored_change}
use Rattle.opfs_state_rows.specs.Changes.Changed.{tree_by}
use Rattle.opfs_codec.specs.declared.change.Change.{Change as Spelled}
use Rattle.opfs_pages.specs.HistoryLaws.Putting.{AllReadAlike}
use Rattle.opfs_hist.specs.declared.entry.Entry.{Entry}
use Rattle.opfs_machine.specs.declared.own.Own.{Own}
use Rattle.opfs_machine.specs.declared.state.Sizes.{Sizes}
use Rattle.opfs_machine.specs.declared.state.State.{State}
use Rattle.opfs_machine.specs.Agents.{counted}
use Rattle.opfs_machine.specs.Contents.{in_lengths}
use Rattle.opfs_machine.specs.Effects.{effect}
use Rattle.opfs_outside.specs.Faults.{Rose}
use Rattle.opfs_outside.specs.Moments.{Elapses}
use Rattle.opfs_outside.specs.declared.disk.Disk.{Ghosts as DiskWords}
use Rattle.opfs_records.specs.Replay.Built.{Built}
use Rattle.opfs_desk_steps.specs.Parts.Held.{AreTied, AreHeldWhole}
use Rattle.opfs_desk_steps.specs.Parts.Seen.{machine_in, tree_in, book_in}
use Rattle.opfs_desk_steps.specs.declared.parts.parts.Ledger.{Ledger}
use Rattle.opfs_desk_steps.specs.declared.parts.parts.OpenPages.{OpenPages}

-- The disk was used for a change, or was not: each image on the way shows a front of what was told before and the change.
pub record IsChangeShown {D : Type 0} (w : DiskWords D) (f : Fixed D) (base : State Text Own) (gone : List Text) (old new : Ledger D) (e : Entry) (own : Spelled) : Type 0 where
  pub later : w.faults old.journal.disk ≤ w.faults new.journal.disk
  pub time : w.tells → Elapses w.moment w.since old.journal.disk new.journal.disk
  pub shown : ShowsTold w f (book_in old) (told f (book_in old) ++ stored_change base gone e own ∷ []) old.journal new.journal

-- The call was entered. The records build what they did, where its change is kept back, or the rows as they are stored.
pub record HasChanged {D : Type 0} (w : DiskWords D) (f : Fixed D) (recorded : Built) (base : State Text Own) (gone : List Text) (old new : Ledger D) (p : OpenPages) (e : Entry) (z : Sizes) (own : Spelled) : Type 0 where
  pub next : Built
  pub either : (next ≡ recorded) ⊎ (next ≡ (book_in new).rows)
  pub entries : new.books.history ≡ old.books.history ++ e ∷ []
  pub machine : machine_in new ≡ counted (effect in_lengths (machine_in old) z e.agent e.op) e.agent
  pub tree : tree_in new ≡ tree_by (machine_in old) (tree_in old) e.agent e.op z None
  pub idle : new.books.state.store.prepared.place ≡ None
  pub books : AreBooks w f next (book_in new) new.journal
  pub tied : AreTied w f new p
  pub fresh : new.books.commits.count ≡ 0 → next ≡ (book_in new).rows
  pub alike : w.tells → AllReadAlike p.base (w.content old.journal.disk) (w.content new.journal.disk) p.swap p.swap
  pub shown : IsChangeShown w f base gone old new e own

-- The disk failed, and the call was entered so.
pub record HasNotChanged {D : Type 0} (w : DiskWords D) (f : Fixed D) (recorded : Built) (base : State Text Own) (gone : List Text) (old new : Ledger D) (p : OpenPages) (e : Entry) (own : Spelled) : Type 0 where
  pub entries : new.books.history ≡ old.books.history ++ failed e ∷ []
  pub idle : new.books.state.store.prepared.place ≡ None
  pub are : AreHeldWhole w f recorded new p
  pub rose : Rose (w.faults old.journal.disk) (w.faults new.journal.disk)
  pub shown : IsChangeShown w f base gone old new e own
