-- A call that is asked for over parts that are kept as between calls, and what want of memory leaves of them. This project's own.
use Rattle.std.specs.Prelude.{◌≡◌, ◌++◌, List, Option, None}
use Rattle.opfs_store.specs.Acts.Asking.{MayAct}
use Rattle.opfs_base.specs.Texts.{Text}
use Rattle.opfs_books.specs.Laws.Books.{Fixed}
use Rattle.opfs_data.specs.Calls.{Reads}
use Rattle.opfs_pages.specs.HistoryLaws.Handles.{AreHandlesWhole}
use Rattle.opfs_desk_steps.specs.Parts.Held.{AreHeld}
use Rattle.opfs_desk_steps.specs.Parts.Seen.{machine_in, tree_in}
use Rattle.opfs_desk_steps.specs.declared.parts.parts.Ledger.{Ledger}
use Rattle.opfs_desk_steps.specs.declared.parts.parts.DeskParts.{DeskParts}
use Rattle.opfs_hist.specs.declared.entry.Entry.{Entry}
use Rattle.opfs_desk_steps.specs.Iterating.Reached.{IsUpTo}
use Rattle.opfs_machine.specs.Histories.{state_after}
use Rattle.opfs_machine.specs.Rows.{children_of as names_of}
use Rattle.opfs_machine.specs.Runs.{Call}
use Rattle.opfs_outside.specs.declared.disk.Disk.{Ghosts as DiskWords}
use Rattle.opfs_work.specs.Works.{WorkingCopy}

-- All parts are kept as between calls, each page of each open access handle is one that the store tells, and the call may be made
-- after the history and its agent's pending calls.
pub record IsCalled {D : Type 0} (w : DiskWords D) (f : Fixed D) (p : DeskParts D) (calls : List Entry) (c : Call) (work : WorkingCopy) (past : List Text) : Type 0 where
  pub held : AreHeld w f p
  pub whole : AreHandlesWhole f.opening p.ledger.books.history
  pub may : MayAct w.tells f.opening p.ledger.books.history calls c work past

pub record MayCall {D : Type 0} (w : DiskWords D) (p : DeskParts D) (calls : List Entry) (c : Call) (work : WorkingCopy) (past : List Text) : Type 0 where
  pub fixed : Fixed D
  pub called : IsCalled w fixed p calls c work past

-- The same, and a next's iterator has given all up to a name, if one is known.
pub record MayCallFrom {D : Type 0} (w : DiskWords D) (p : DeskParts D) (calls : List Entry) (c : Call) (work : WorkingCopy) (past : List Text) (last : Option Text) : Type 0 where
  pub may : MayCall w p calls c work past
  pub reached : IsUpTo (names_of (state_after may.fixed.opening (p.ledger.books.history ++ calls))) c.op past last

-- There was no memory: nothing was entered, the disk was only read, and nothing stands ready.
pub record IsLeftAlone {D : Type 0} (w : DiskWords D) (f : Fixed D) (old new : DeskParts D) : Type 0 where
  pub held : AreHeld w f new
  pub entries : new.ledger.books.history ≡ old.ledger.books.history
  pub reads : Reads w old.ledger.journal new.ledger.journal

-- Nothing stands ready for a call any more; all else is as before.
pub record HasNoneReady {D : Type 0} (old new : Ledger D) : Type 0 where
  pub machine : machine_in new ≡ machine_in old
  pub tree : tree_in new ≡ tree_in old
  pub idle : new.books.state.store.prepared.place ≡ None
  pub rest : new ≡ record old { books = record old.books { state = new.books.state } }
