-- A call that puts bytes into a row, step by step. This project's own.
use Rattle.std.specs.Prelude.{◌≡◌, ℕ, ◌/◌, ◌≤◌, List, [], ◌∷◌, ◌++◌, Some, None}
use Rattle.std.specs.Vec.{vec_capacity}
use Rattle.opfs_base.specs.Texts.{Text}
use Rattle.opfs_books.specs.Laws.Books.{Fixed, AreBooks, AreBooksAt}
use Rattle.opfs_books.specs.Laws.Laws.{failed}
use Rattle.opfs_state_rows.specs.Changes.Changed.{tree_by}
use Rattle.opfs_data.specs.Writes.{HasBytes, WriteList}
use Rattle.opfs_hist.specs.declared.entry.Entry.{Entry}
use Rattle.opfs_hist.specs.declared.op.Op.{Op}
use Rattle.opfs_machine.specs.declared.own.Own.{Own}
use Rattle.opfs_machine.specs.declared.state.Sizes.{Sizes}
use Rattle.opfs_machine.specs.declared.state.State.{State}
use Rattle.opfs_machine.specs.Agents.{counted}
use Rattle.opfs_machine.specs.Contents.{in_lengths}
use Rattle.opfs_machine.specs.Effects.{effect}
use Rattle.opfs_machine.specs.Histories.{state_after}
use Rattle.opfs_machine.specs.Replies.{row_named}
use Rattle.opfs_outside.specs.Faults.{Rose}
use Rattle.opfs_outside.specs.declared.disk.Disk.{Ghosts as DiskWords}
use Rattle.opfs_pages.specs.Copies.{IsPageOf}
use Rattle.opfs_pages.specs.Writing.Puts.{IsReady}
use Rattle.opfs_pages.specs.declared.writing.put.Put.{Put}
use Rattle.opfs_records.specs.Replay.Built.{Built}
use Rattle.opfs_pages.specs.RowCalls.Plans.{shelf, AreGotten}
use Rattle.opfs_pages.specs.RowCalls.Rows.{IsPutOf}
use Rattle.opfs_laws.specs.Steady.Steady.{row_bytes}
use Rattle.opfs_tree.specs.Rows.{IsInOrder}
use Rattle.opfs_work.specs.Works.{WorkingCopy}
use Rattle.opfs_desk_steps.specs.Parts.Answered.{IsAnswered}
use Rattle.opfs_desk_steps.specs.Parts.Asked.{IsAsked}
use Rattle.opfs_desk_steps.specs.Parts.Held.{AreHeldWhole}
use Rattle.opfs_desk_steps.specs.Parts.Seen.{machine_in, tree_in, book_in}
use Rattle.opfs_desk_steps.specs.declared.parts.call.ReadyCall.{ReadyCall}
use Rattle.opfs_desk_steps.specs.declared.parts.parts.Ledger.{Ledger}
use Rattle.opfs_desk_steps.specs.declared.parts.parts.OpenPages.{OpenPages}
use Rattle.opfs_desk_steps.specs.declared.parts.parts.DeskParts.{DeskParts}
use Rattle.opfs_desk_bytes.specs.Writing.Putting.{IsToPut, IsUsed, AreGottenIn, HasPutPages}
use Rattle.opfs_desk_bytes.specs.Writing.Words.{beside_put, change_put, text_put}

-- Pages of a row are planned: they stand ready, and have their blocks or wait for them.
pub record IsPlanned {D : Type 0} (w : DiskWords D) (p : DeskParts D) (agent row : ℕ) (put : Put) (given : List ℕ) : Type 0 where
  pub ready : IsReady w.tells (w.content p.ledger.journal.disk) p.pages.base p.pages.swap agent row put.pages put.writes put.moves (vec_capacity put.extents)
  pub bytes : HasBytes put.writes given
  pub gotten : AreGotten put.taken (machine_in p.ledger) (shelf [] (tree_in p.ledger) p.pages.swap) p.pages.space p.pages.base (w.size p.ledger.journal.disk) agent row put.pages put.writes given put.extents.items

-- They are those that a call leaves of a row with these bytes; so is the page that it leaves in memory.
pub record IsPlannedOf (tells : Type 0) (work : WorkingCopy) (c : List ℕ) (p : OpenPages) (agent row : ℕ) (z : Sizes) (o : Op) (writes : WriteList) (page : List ℕ) (before : Text) : Type 0 where
  pub put_of : IsPutOf tells work c p.base p.swap agent row (change_put z o) writes before (text_put z o before)
  pub page_is : tells → IsPageOf (text_put z o before) (beside_put z o / 4096) page

-- The row that the call names, once its agent's pending calls are taken in.
abbrev pub IsPlannedFor : {D : Type 0} → DiskWords D → DeskParts D → List Entry → ReadyCall → WorkingCopy → Put → List ℕ → Type 0
IsPlannedFor {D} w p calls c work put page =
    (f : Fixed D) (recorded : Built) → AreHeldWhole w f recorded p.ledger p.pages → IsAsked w.tells f.opening p.ledger.books.history calls p.ledger.books.state c work []
    → (before : Text) → row_bytes (state_after f.opening (p.ledger.books.history ++ calls)) c.agent (row_named c.op) ≡ Some before
    → IsPlannedOf w.tells work (w.content p.ledger.journal.disk) p.pages c.agent (row_named c.op) c.sizes c.op put.writes page before

-- The entry may come now, over books that are kept.
pub record MayTell {D : Type 0} (w : DiskWords D) (l : Ledger D) (e : Entry) (z : Sizes) : Type 0 where
  pub fixed : Fixed D
  pub recorded : Built
  pub base : State Text Own
  pub gone : List Text
  pub books : AreBooksAt w fixed recorded base gone (book_in l) l.journal
  pub answered : IsAnswered w base gone l e z

-- It was entered.
pub record HasTold {D : Type 0} (w : DiskWords D) (f : Fixed D) (recorded : Built) (old new : Ledger D) (e : Entry) (z : Sizes) : Type 0 where
  pub journal : new.journal ≡ old.journal
  pub entries : new.books.history ≡ old.books.history ++ e ∷ []
  pub machine : machine_in new ≡ counted (effect in_lengths (machine_in old) z e.agent e.op) e.agent
  pub tree : tree_in new ≡ tree_by (machine_in old) (tree_in old) e.agent e.op z None
  pub idle : new.books.state.store.prepared.place ≡ None
  pub commits : new.books.commits ≡ old.books.commits
  pub freed : vec_capacity old.freed ≤ vec_capacity new.freed
  pub books : AreBooks w f recorded (book_in new) new.journal
  pub order : IsInOrder (tree_in old)
  pub order_after : IsInOrder (tree_in new)

-- The pages may be put and the call entered, over parts that are kept.
pub record MayEnter {D : Type 0} (w : DiskWords D) (p : DeskParts D) (row : ℕ) (put : Put) (given : List ℕ) (e : Entry) (z : Sizes) : Type 0 where
  pub fixed : Fixed D
  pub recorded : Built
  pub base : State Text Own
  pub gone : List Text
  pub to_put : IsToPut w fixed recorded base gone p e.agent row put given
  pub gotten : AreGottenIn w recorded p e.agent row put given
  pub answered : IsAnswered w base gone p.ledger e z

-- The pages were put, and the call was entered.
pub record HasEntered {D : Type 0} (w : DiskWords D) (f : Fixed D) (base : State Text Own) (gone : List Text) (old new : DeskParts D) (row : ℕ) (put : Put) (given : List ℕ) (e : Entry) (z : Sizes) : Type 0 where
  pub between : DeskParts D
  pub pages : HasPutPages w f base gone old between e.agent row put given
  pub told : HasTold w f pages.found.recorded between.ledger new.ledger e z
  pub same : new.pages ≡ between.pages

-- The disk failed, and the call was entered so.
pub record HasNotEntered {D : Type 0} (w : DiskWords D) (f : Fixed D) (old new : DeskParts D) (e : Entry) : Type 0 where
  pub recorded : Built
  pub are : AreHeldWhole w f recorded new.ledger new.pages
  pub entries : new.ledger.books.history ≡ old.ledger.books.history ++ failed e ∷ []
  pub idle : new.ledger.books.state.store.prepared.place ≡ None
  pub rose : Rose (w.faults old.ledger.journal.disk) (w.faults new.ledger.journal.disk)
  pub used : IsUsed w f old.ledger new.ledger
