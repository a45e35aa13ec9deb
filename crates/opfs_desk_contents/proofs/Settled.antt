-- What is held once the journal was used, and no entry came.
use Rattle.std.specs.Vec.{vec_capacity}
use Rattle.std.proofs.Common.{◌≡◌, ◌-◌, ◌^◌, ◌≤◌, [], ◌++◌, sym, ap, subst, inl}
use Rattle.opfs_base.specs.Texts.{Text}
use Rattle.opfs_books.specs.Laws.Books.{Fixed, AreBooksAt}
use Rattle.opfs_books.specs.Laws.Laws.{LeavesPages, ShowsTold, told, doubt}
use Rattle.opfs_desk_steps.specs.Parts.Acted.{AreCleared, IsWayNow}
use Rattle.opfs_desk_steps.specs.Parts.Held.{AreHeldAt, AreHeldWhole}
use Rattle.opfs_desk_steps.specs.Parts.Seen.{book_in}
use Rattle.opfs_desk_steps.specs.declared.parts.parts.Ledger.{Ledger}
use Rattle.opfs_desk_steps.specs.declared.parts.parts.OpenPages.{OpenPages}
use Rattle.opfs_desk_steps.proofs.book_steps.Held.{moved-held, fresh-same}
use Rattle.opfs_desk_steps.proofs.book_steps.LaidStays.{LaidBeside}
use Rattle.opfs_desk_steps.proofs.book_steps.Ways.{way-settled, way-same}
use Rattle.opfs_machine.specs.declared.own.Own.{Own}
use Rattle.opfs_machine.specs.declared.state.State.{State}
use Rattle.opfs_machine.specs.Changes.{changes}
use Rattle.opfs_machine.specs.Histories.{state_after}
use Rattle.opfs_outside.specs.declared.disk.Disk.{Ghosts as DiskWords}
use Rattle.opfs_records.specs.Replay.Built.{Built}
use Rattle.opfs_state.specs.Applied.{StateSeen}

module _ {D : Type 0} (w : DiskWords D) (f : Fixed D) (l new : Ledger D) (entries : new.books.history ≡ l.books.history) where
  same-told : told f (book_in l) ≡ told f (book_in new)
  same-told = ap (changes f.opening) (sym entries)

  -- Each image shows a front of what was told before.
  pub way-used : LeavesPages w l.journal new.journal → ShowsTold w f (book_in l) (told f (book_in l)) l.journal new.journal → IsWayNow w f l new
  way-used leaves shown = way-same w f l new (told f (book_in l)) (told f (book_in new)) same-told (record { later = leaves.later; time = leaves.time; shown = λ t c left. inl (shown t c left) })

  module _ (recorded : Built) (p : OpenPages) (are : AreHeldWhole w f recorded l p) (beside : LaidBeside w.tells) (most : (d : D) → w.faults d ≤ 2 ^ 64 - 1) (state : new.books.state ≡ l.books.state) (commits : new.books.commits ≡ l.books.commits) (leaves : LeavesPages w l.journal new.journal)
      (books : AreBooksAt w f recorded (state_after f.opening l.books.history) [] (book_in new) new.journal) (freed : vec_capacity l.freed ≤ vec_capacity new.freed) where
    abbrev base : State Text Own
    base = state_after f.opening l.books.history

    held-at : AreHeldAt w f recorded base [] new p
    held-at =
        moved-held w f beside most recorded recorded base [] l new p are books leaves entries state freed are.laid.spaced
        (fresh-same w f recorded l new are.fresh commits (ap (λ (s : StateSeen). s.store.tree) state) (ap (λ (s : StateSeen). s.store.machine.persistent) state))

    -- The doubt was ended, or the disk failed at that.
    pub settled-held : AreHeldWhole w f recorded new p
    settled-held = subst (λ es. AreHeldAt w f recorded (state_after f.opening es) [] new p) (sym entries) held-at

    pub settled-cleared : ShowsTold w f (book_in l) (told f (book_in l) ++ doubt f (book_in l) l.journal) l.journal new.journal → AreCleared w f [] l new p
    settled-cleared shown = record { recorded = recorded; are = held-at; way = way-settled w f l new (told f (book_in new)) leaves.later leaves.time shown }
