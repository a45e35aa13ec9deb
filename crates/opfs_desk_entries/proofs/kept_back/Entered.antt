-- What an entry with a change leaves: where the change is kept back, where it is committed, and where the disk failed.
use Rattle.std.proofs.Common.{◌≡◌, ℕ, ◌+◌, Bool, true, false, if◌then◌else◌, List, [], ◌∷◌, ◌++◌, fold, None, refl, sym, ap, subst, ◌∙◌, inl, inr, append-nil, arith}
use Rattle.opfs_base.specs.Texts.{Text}
use Rattle.opfs_books.specs.Laws.Books.{Fixed, AreBooks}
use Rattle.opfs_books.specs.Laws.Laws.{BooksShowTheirImages, LeavesPages, ShowsTold, told, failed}
use Rattle.opfs_books.specs.Stored.Spelled.{bytes_stored}
use Rattle.opfs_books.specs.Seen.{BytesStand, stored_change}
use Rattle.opfs_books.proofs.Calls.{quiet-told}
use Rattle.opfs_state_rows.specs.Changes.Changed.{tree_by}
use Rattle.opfs_codec.specs.declared.change.Change.{Change as Spelled}
use Rattle.opfs_commit.specs.Making.{new_bytes}
use Rattle.opfs_commit.specs.Seen.{KeptBack, with_kept, IsQuiet}
use Rattle.opfs_commit.specs.Shown.{IsShown}
use Rattle.opfs_commit.proofs.Holding.{shown_more}
use Rattle.opfs_pages.specs.HistoryLaws.Putting.{AllReadAlike}
use Rattle.opfs_hist.specs.declared.entry.Entry.{Entry}
use Rattle.opfs_image.specs.Superblock.{areas_of, data_base}
use Rattle.opfs_journal.specs.Seen.{Seen}
use Rattle.opfs_machine.specs.declared.own.Own.{Own}
use Rattle.opfs_machine.specs.declared.state.Sizes.{Sizes}
use Rattle.opfs_machine.specs.declared.state.State.{State}
use Rattle.opfs_machine.specs.Agents.{counted}
use Rattle.opfs_machine.specs.Changes.{Change, floor}
use Rattle.opfs_machine.specs.Contents.{in_lengths}
use Rattle.opfs_machine.specs.Effects.{effect}
use Rattle.opfs_machine.specs.Steps.{evicted}
use Rattle.opfs_outside.specs.Faults.{Rose}
use Rattle.opfs_outside.specs.declared.disk.Disk.{Ghosts as DiskWords}
use Rattle.opfs_records.specs.Replay.Built.{Built}
use Rattle.opfs_desk_steps.specs.Parts.Held.{AreTied, AreHeldAt, AreHeldWhole}
use Rattle.opfs_desk_steps.specs.Parts.Seen.{machine_in, tree_in, book_in}
use Rattle.opfs_desk_steps.specs.declared.parts.parts.Ledger.{Ledger}
use Rattle.opfs_desk_steps.specs.declared.parts.parts.OpenPages.{OpenPages}
use Rattle.opfs_desk_steps.proofs.book_steps.Alike.{leaves-alike}
use Rattle.opfs_desk_steps.proofs.book_steps.Held.{behind}
use Rattle.opfs_desk_steps.proofs.book_steps.Ways.{way-here}
use Rattle.opfs_desk_entries.specs.KeptBack.Changing.{HasChanged, HasNotChanged, IsChangeShown}

no-doubt : (b : Bool) → b ≡ false → (xs : List Change) → (if b then xs else []) ≡ []
no-doubt true e xs = cc
no-doubt false e xs = refl

module _ {D : Type 0} (w : DiskWords D) (f : Fixed D) (recorded : Built) (base : State Text Own) (gone : List Text) (l new : Ledger D) (p : OpenPages) (e : Entry) (z : Sizes) (own : Spelled) (are : AreHeldAt w f recorded base gone l p) where
  moved-alike : LeavesPages w l.journal new.journal → w.tells → AllReadAlike p.base (w.content l.journal.disk) (w.content new.journal.disk) p.swap p.swap
  moved-alike leaves t =
      let areas : l.journal.areas ≡ areas_of f.geometry = are.books.areas in
      let first : l.journal.areas.first ≡ (areas_of f.geometry).first = ap (λ a. a.first) areas in
      let bytes : l.journal.areas.bytes ≡ (areas_of f.geometry).bytes = ap (λ a. a.bytes) areas in
      leaves-alike w l.journal new.journal p.base p.swap (omega (arith, first, bytes, are.tied.base, behind w f f.geometry)) leaves t

  same-alike : new.journal ≡ l.journal → w.tells → AllReadAlike p.base (w.content l.journal.disk) (w.content new.journal.disk) p.swap p.swap
  same-alike same t = subst (λ (j : Seen D). AllReadAlike p.base (w.content l.journal.disk) (w.content j.disk) p.swap p.swap) (sym same) (λ k n i within. refl)

  -- No disk was used, and no gate is in doubt.
  rest-shown : BooksShowTheirImages w → l.journal.in_doubt ≡ false → new.journal ≡ l.journal → IsChangeShown w f base gone l new e own
  rest-shown shows settled same =
      let here = way-here w f recorded base gone l new (told f (book_in l)) shows are.books same in
      record {
        later = here.later;
        time = here.time;
        shown = λ t c left.
            shown_more f.opening (floor (told f (book_in l))) (told f (book_in l)) (stored_change base gone e own ∷ []) c
            (subst (λ (cs : List Change). IsShown f.opening (floor (told f (book_in l))) cs c)
            (ap (λ (cs : List Change). told f (book_in l) ++ cs) (no-doubt l.journal.in_doubt settled _) ∙ append-nil (told f (book_in l)))
            (shows f recorded base gone (book_in l) l.journal are.books t c (subst (λ (j : Seen D). w.since j.disk (w.moment l.journal.disk) c) same left)));
      }

  used-shown : LeavesPages w l.journal new.journal → ShowsTold w f (book_in l) (told f (book_in l) ++ stored_change base gone e own ∷ []) l.journal new.journal → IsChangeShown w f base gone l new e own
  used-shown leaves shown = record { later = leaves.later; time = leaves.time; shown = shown }

  more-than-none : (n m : ℕ) → n ≡ m + 1 → n ≡ 0 → ⊥
  more-than-none n m more none = omega (arith, more, none)

  pub kept-changed : BooksShowTheirImages w → l.journal.in_doubt ≡ false → new.journal ≡ l.journal → new.books.history ≡ l.books.history ++ e ∷ []
      → machine_in new ≡ counted (effect in_lengths (machine_in l) z e.agent e.op) e.agent → tree_in new ≡ tree_by (machine_in l) (tree_in l) e.agent e.op z None → new.books.state.store.prepared.place ≡ None
      → new.books.commits ≡ with_kept l.books.commits own → AreBooks w f recorded (book_in new) new.journal → AreTied w f new p → HasChanged w f recorded base gone l new p e z own
  kept-changed shows settled same entries machine tree idle kept books tied = record {
    next = recorded;
    either = inl refl;
    entries = entries;
    machine = machine;
    tree = tree;
    idle = idle;
    books = books;
    tied = tied;
    fresh = λ none. absurd (more-than-none new.books.commits.count l.books.commits.count (ap (λ (k : KeptBack). k.count) kept) none);
    alike = same-alike same;
    shown = rest-shown shows settled same;
  }

  pub stored-changed : LeavesPages w l.journal new.journal → new.books.history ≡ l.books.history ++ e ∷ []
      → machine_in new ≡ counted (effect in_lengths (machine_in l) z e.agent e.op) e.agent → tree_in new ≡ tree_by (machine_in l) (tree_in l) e.agent e.op z None → new.books.state.store.prepared.place ≡ None
      → AreBooks w f (book_in new).rows (book_in new) new.journal → AreTied w f new p → ShowsTold w f (book_in l) (told f (book_in l) ++ stored_change base gone e own ∷ []) l.journal new.journal
      → HasChanged w f recorded base gone l new p e z own
  stored-changed leaves entries machine tree idle books tied shown = record {
    next = (book_in new).rows;
    either = inr refl;
    entries = entries;
    machine = machine;
    tree = tree;
    idle = idle;
    books = books;
    tied = tied;
    fresh = λ none. refl;
    alike = moved-alike leaves;
    shown = used-shown leaves shown;
  }

  pub not-changed : LeavesPages w l.journal new.journal → new.books.history ≡ l.books.history ++ failed e ∷ [] → new.books.state.store.prepared.place ≡ None → AreHeldWhole w f recorded new p → Rose (w.faults l.journal.disk) (w.faults new.journal.disk)
      → ShowsTold w f (book_in l) (told f (book_in l) ++ stored_change base gone e own ∷ []) l.journal new.journal → HasNotChanged w f recorded base gone l new p e own
  not-changed leaves entries idle held rose shown = record { entries = entries; idle = idle; are = held; rose = rose; shown = used-shown leaves shown }

-- A change that is no content needs no bytes of the disk.
pub quiet-stands : {D : Type 0} (w : DiskWords D) (f : Fixed D) (base : State Text Own) (gone : List Text) (j : Seen D) (e : Entry) (own : Spelled) → IsQuiet own → BytesStand w f base gone j e own
quiet-stands w f base gone j e own quiet t =
    quiet-told (new_bytes (data_base f.geometry) (w.content j.disk) own) own quiet ∙ sym (quiet-told (bytes_stored (fold evicted base gone) e.agent e.op) own quiet)
