-- The disk failed before a call's own change: the call is entered so.
use Rattle.std.proofs.Common.{◌≡◌, ◌+◌, List, [], ◌∷◌, ◌++◌, None, refl, sym, ap, subst, ◌∙◌}
use Rattle.opfs_books.specs.Laws.Books.{Fixed}
use Rattle.opfs_books.specs.Laws.Laws.{FaultsAreCounted, failed, told}
use Rattle.opfs_desk_steps.specs.Parts.Acted.{AreCleared, HasFailed, last_doubt}
use Rattle.opfs_desk_steps.specs.Parts.Held.{AreHeldWhole}
use Rattle.opfs_desk_steps.specs.Parts.Seen.{book_in}
use Rattle.opfs_desk_steps.specs.declared.parts.parts.Ledger.{Ledger}
use Rattle.opfs_desk_steps.specs.declared.parts.parts.OpenPages.{OpenPages}
use Rattle.opfs_desk_steps.specs.BookSteps.Refusing.{IsRefused}
use Rattle.opfs_desk_steps.proofs.book_steps.Held.{refused-told}
use Rattle.opfs_desk_steps.proofs.book_steps.Ways.{way-same, way-told}
use Rattle.opfs_hist.specs.Faults.{disk_faults}
use Rattle.opfs_hist.specs.declared.entry.Entry.{Entry}
use Rattle.opfs_journal.specs.Seen.{Seen}
use Rattle.opfs_machine.specs.Changes.{Change}
use Rattle.opfs_machine.specs.Histories.{IsCall, state_after}
use Rattle.opfs_outside.specs.Faults.{Rose, RoseBy}
use Rattle.opfs_outside.specs.declared.disk.Disk.{Ghosts as DiskWords}
use Rattle.opfs_records.specs.Replay.Built.{Built}

module _ {D : Type 0} (w : DiskWords D) (f : Fixed D) (counts : FaultsAreCounted w) (recorded : Built) (l back new : Ledger D) (p q : OpenPages) (e : Entry) (are : AreHeldWhole w f recorded l p) (cleared : AreCleared w f [] l back q) (entries : back.books.history ≡ l.books.history)
    (fault : IsCall (state_after f.opening l.books.history) [] (failed e)) (rose : Rose (w.faults l.journal.disk) (w.faults back.journal.disk)) where
  -- Its entry may come.
  pub may-fail-now : IsRefused w f (state_after f.opening l.books.history) [] back (failed e)
  may-fail-now = record {
    next = record { real = failed e; call = fault; alike = refl; told = λ t. refl };
    risen = λ is.
        subst (λ (es : List Entry). RoseBy (disk_faults es + 1) (w.faults f.begun) (w.faults back.journal.disk)) (sym entries)
        (counts.more (w.faults f.begun) l.journal.disk back.journal.disk l.books.history l.journal.in_doubt are.books.counted rose cleared.way.later);
  }

  pub failed-now : new.books.history ≡ back.books.history ++ failed e ∷ [] → new.journal ≡ back.journal → new.books.state.store.prepared.place ≡ None → AreHeldWhole w f cleared.recorded new q → HasFailed w f e l new q
  failed-now grown same idle held = record {
    gone = [];
    grown = grown ∙ ap (λ (es : List Entry). es ++ failed e ∷ []) entries;
    call = fault;
    recorded = cleared.recorded;
    are = held;
    idle = idle;
    rose = subst (λ (j : Seen D). Rose (w.faults l.journal.disk) (w.faults j.disk)) (sym same) rose;
    way =
        way-same w f l new _ _ (ap (λ (cs : List Change). cs ++ last_doubt f.opening new.books.history) (sym (refused-told w f back new (failed e) refl grown)))
        (way-told w f l back new (told f (book_in back)) (last_doubt f.opening new.books.history) cleared.way same);
  }
