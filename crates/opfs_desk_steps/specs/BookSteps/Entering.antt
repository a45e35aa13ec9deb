-- A call that stores something, and what its commit leaves. This project's own.
use Rattle.std.specs.Prelude.{◌≡◌, false, List, [], ◌∷◌, ◌++◌, Option, Some, None}
use Rattle.opfs_base.specs.Texts.{Text}
use Rattle.opfs_base.specs.declared.extents.Extent.{Extent}
use Rattle.opfs_books.specs.Laws.Books.{Fixed, AreBooks}
use Rattle.opfs_books.specs.Laws.Laws.{failed}
use Rattle.opfs_books.specs.Seen.{MayStore, BytesStand}
use Rattle.opfs_books.specs.Stored.Spelled.{spelled_by}
use Rattle.opfs_codec.specs.Fields.{Fits}
use Rattle.opfs_codec.specs.declared.change.Change.{Change as Spelled}
use Rattle.opfs_hist.specs.declared.entry.Entry.{Entry}
use Rattle.opfs_machine.specs.declared.own.Own.{Own}
use Rattle.opfs_machine.specs.declared.state.Sizes.{Sizes}
use Rattle.opfs_machine.specs.declared.state.State.{State}
use Rattle.opfs_machine.specs.Agents.{counted}
use Rattle.opfs_machine.specs.Contents.{in_lengths}
use Rattle.opfs_machine.specs.Effects.{effect}
use Rattle.opfs_machine.specs.Steps.{is_refusal}
use Rattle.opfs_outside.specs.Faults.{Rose}
use Rattle.opfs_outside.specs.declared.disk.Disk.{Ghosts as DiskWords}
use Rattle.opfs_records.specs.Replay.Built.{Built}
use Rattle.opfs_state_rows.specs.Changes.Changed.{freed_in, tree_by}
use Rattle.opfs_desk_steps.specs.Parts.Answered.{IsAnswered, MayAnswer}
use Rattle.opfs_desk_steps.specs.Parts.Held.{AreHeldAt, AreHeldWhole}
use Rattle.opfs_desk_steps.specs.Parts.Seen.{machine_in, tree_in, book_in}
use Rattle.opfs_desk_steps.specs.declared.parts.parts.Ledger.{Ledger}
use Rattle.opfs_desk_steps.specs.declared.parts.parts.OpenPages.{OpenPages}

-- A call that stores something, and may be entered.
pub record MayStoreCall {D : Type 0} (w : DiskWords D) (l : Ledger D) (e : Entry) (z : Sizes) (own : Spelled) : Type 0 where
  pub answer : MayAnswer w l e z
  pub stores : MayStore answer.fixed (book_in l) own

-- It is not refused and stores what is spelled so, and no gate is in doubt.
pub record MayCommit {D : Type 0} (w : DiskWords D) (l : Ledger D) (e : Entry) (z : Sizes) (extents : Option (List Extent)) (own : Spelled) : Type 0 where
  pub may : MayStoreCall w l e z own
  pub answered : is_refusal e.reply ≡ false
  pub spelled : spelled_by (machine_in l) (tree_in l) e.agent e.op z extents ≡ Some own
  pub fits : Fits own
  pub settled : l.journal.in_doubt ≡ false

-- It is committed over parts that are kept, after some evictions, with the bytes of its content on the disk.
pub record IsCommittedOver {D : Type 0} (w : DiskWords D) (f : Fixed D) (recorded : Built) (base : State Text Own) (gone : List Text) (l : Ledger D) (p : OpenPages) (e : Entry) (z : Sizes) (own : Spelled) : Type 0 where
  pub are : AreHeldAt w f recorded base gone l p
  pub answered : IsAnswered w base gone l e z
  pub stores : MayStore f (book_in l) own
  pub bytes : BytesStand w f base gone l.journal e own

-- It was committed and entered, and what it let go is told: nothing is kept back, and no gate is in doubt. The pages are the caller's.
pub record HasCommitted {D : Type 0} (w : DiskWords D) (old new : Ledger D) (e : Entry) (z : Sizes) (extents : Option (List Extent)) (own : Spelled) : Type 0 where
  pub entries : new.books.history ≡ old.books.history ++ e ∷ []
  pub machine : machine_in new ≡ counted (effect in_lengths (machine_in old) z e.agent e.op) e.agent
  pub tree : tree_in new ≡ tree_by (machine_in old) (tree_in old) e.agent e.op z extents
  pub idle : new.books.state.store.prepared.place ≡ None
  pub none : new.books.commits.count ≡ 0
  pub sure : new.journal.in_doubt ≡ false
  pub freed : new.freed.items ≡ freed_in (machine_in old) (tree_in old) e.agent e.op extents
  pub books : (f : Fixed D) (recorded : Built) (base : State Text Own) (gone : List Text) (p : OpenPages) → IsCommittedOver w f recorded base gone old p e z own → AreBooks w f (book_in new).rows (book_in new) new.journal

-- The disk failed: the call is entered so, and the parts are kept.
pub record HasNotCommitted {D : Type 0} (w : DiskWords D) (old new : Ledger D) (e : Entry) (z : Sizes) (own : Spelled) : Type 0 where
  pub entries : new.books.history ≡ old.books.history ++ failed e ∷ []
  pub idle : new.books.state.store.prepared.place ≡ None
  pub held : (f : Fixed D) (recorded : Built) (base : State Text Own) (gone : List Text) (p : OpenPages) → IsCommittedOver w f recorded base gone old p e z own → AreHeldWhole w f recorded new p
  pub cause : Rose (w.faults old.journal.disk) (w.faults new.journal.disk)
