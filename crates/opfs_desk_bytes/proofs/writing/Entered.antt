-- A call that put its pages, entered; and one in which the disk failed.
use Rattle.std.proofs.Common.{◌≡◌, ◌+◌, ◌<◌, ◌≤◌, ◌^◌, List, [], ◌∷◌, ◌++◌, length, None, refl, sym, ap, subst, ◌∙◌}
use Rattle.opfs_base.specs.Texts.{Text}
use Rattle.opfs_books.specs.Laws.Books.{Fixed, AreBooksAt, AreCounted, IsPlaced}
use Rattle.opfs_books.specs.Laws.Laws.{FaultsAreCounted, ShowsTold, failed, told}
use Rattle.opfs_state_rows.specs.Changes.Allowed.{IsSized, MayApply}
use Rattle.opfs_hist.specs.Faults.{disk_faults}
use Rattle.opfs_hist.specs.declared.entry.Entry.{Entry}
use Rattle.opfs_journal.specs.Seen.{Seen}
use Rattle.opfs_laws.specs.Lengths.Kept.{Kept}
use Rattle.opfs_machine.specs.declared.own.Own.{Own}
use Rattle.opfs_machine.specs.declared.state.Sizes.{Sizes}
use Rattle.opfs_machine.specs.declared.state.State.{State}
use Rattle.opfs_machine.specs.Agents.{agent_of}
use Rattle.opfs_machine.specs.Histories.{IsCall}
use Rattle.opfs_outside.specs.Faults.{Rose, RoseBy}
use Rattle.opfs_outside.specs.Moments.{Elapses}
use Rattle.opfs_outside.specs.declared.disk.Disk.{Ghosts as DiskWords}
use Rattle.opfs_records.specs.Replay.Built.{Built}
use Rattle.opfs_register.specs.Slots.{most_rows}
use Rattle.opfs_books.specs.Sharing.Serving.{MayApplyTo}
use Rattle.opfs_state.specs.Applied.{StateSeen, IsPrepared}
use Rattle.opfs_state.specs.Verdicts.Callers.{IsAgent}
use Rattle.opfs_desk_steps.specs.Parts.Answered.{IsAnswered, MayChange}
use Rattle.opfs_desk_steps.specs.Parts.Held.{AreHeldWhole}
use Rattle.opfs_desk_steps.specs.Parts.Seen.{machine_in, book_in}
use Rattle.opfs_desk_steps.specs.declared.parts.parts.Ledger.{Ledger}
use Rattle.opfs_desk_steps.specs.declared.parts.parts.DeskParts.{DeskParts}
use Rattle.opfs_desk_steps.specs.BookSteps.Refusing.{IsRefused, MayRefuse}
use Rattle.opfs_desk_steps.proofs.book_steps.Entries.{entries-few}
use Rattle.opfs_desk_bytes.specs.Writing.Putting.{HasNotPut}
use Rattle.opfs_desk_bytes.specs.Writing.Steps.{HasNotEntered}

-- ---- it may be entered

pub may-apply : {D : Type 0} (w : DiskWords D) (f : Fixed D) (recorded : Built) (base : State Text Own) (gone : List Text) (l : Ledger D) (e : Entry) (z : Sizes) → AreBooksAt w f recorded base gone (book_in l) l.journal → length l.books.history < 2 ^ 34
    → MayChange l e z → MayApplyTo l.books.state e.agent e.op z
may-apply w f recorded base gone l e z books short is = record {
  agent = is.agent;
  kept = is.kept;
  may = is.may;
  sized = is.sized;
  prepared = is.prepared;
  few = is.few;
  entries = entries-few w.tells f.opening l.books.history base gone (machine_in l) books.told books.machine short;
}

-- Over a ledger with the same history and the same shared state.
pub answered-same : {D : Type 0} (w : DiskWords D) (base : State Text Own) (gone : List Text) (l new : Ledger D) (e : Entry) (z : Sizes) → new.books.history ≡ l.books.history → new.books.state ≡ l.books.state → IsAnswered w base gone l e z → IsAnswered w base gone new e z
answered-same w base gone l new e z history state is = record {
  next = is.next;
  turn = is.turn;
  sizes = is.sizes;
  change = record {
    agent = subst (λ (s : StateSeen). IsAgent s.store.machine e.agent) (sym state) is.change.agent;
    kept = subst (λ (s : StateSeen). Kept s.store.machine) (sym state) is.change.kept;
    may = subst (λ (s : StateSeen). MayApply s.store.machine z e.agent e.op) (sym state) is.change.may;
    sized = subst (λ (s : StateSeen). IsSized s.store.machine z e.agent e.op) (sym state) is.change.sized;
    prepared = subst (λ (s : StateSeen). IsPrepared s e.agent e.op) (sym state) is.change.prepared;
    few = subst (λ (s : StateSeen). length (agent_of s.store.machine e.agent).own < most_rows) (sym state) is.change.few;
    placed = subst (λ (es : List Entry). IsPlaced es e.agent) (sym history) is.change.placed;
  };
}

-- ---- the disk failed

module _ {D : Type 0} (w : DiskWords D) (f : Fixed D) (base : State Text Own) (gone : List Text) (old now : DeskParts D) (e : Entry) (not : HasNotPut w f base gone old now) where
  pub may-refuse : IsPlaced old.ledger.books.history e.agent → IsAgent (machine_in old.ledger) e.agent → MayRefuse w now.ledger (failed e)
  may-refuse placed agent = record {
    fixed = f;
    recorded = not.recorded;
    base = base;
    gone = gone;
    pages = now.pages;
    are = not.are;
    refuses = refl;
    placed = subst (λ (es : List Entry). IsPlaced es e.agent) (sym not.history) placed;
    agent = subst (λ (s : StateSeen). IsAgent s.store.machine e.agent) (sym not.state) agent;
  }

  pub is-refused : FaultsAreCounted w → AreCounted (w.faults f.begun) (w.faults old.ledger.journal.disk) old.ledger.books.history old.ledger.journal.in_doubt → IsCall base gone (failed e) → IsRefused w f base gone now.ledger (failed e)
  is-refused counts counted call = record {
    next = record { real = failed e; call = call; alike = refl; told = λ t. refl };
    risen = λ fault.
        subst (λ (es : List Entry). RoseBy (disk_faults es + 1) (w.faults f.begun) (w.faults now.ledger.journal.disk)) (sym not.history)
        (counts.more (w.faults f.begun) old.ledger.journal.disk now.ledger.journal.disk old.ledger.books.history old.ledger.journal.in_doubt counted not.rose not.used.later);
  }

  pub not-entered : (new : Ledger D) → AreHeldWhole w f not.recorded new now.pages → new.journal ≡ now.ledger.journal → new.books.history ≡ now.ledger.books.history ++ failed e ∷ [] → new.books.state.store.prepared.place ≡ None
      → HasNotEntered w f old (record { ledger = new; pages = now.pages }) e
  not-entered new are journal entries idle = record {
    recorded = not.recorded;
    are = are;
    entries = entries ∙ ap (λ (es : List Entry). es ++ failed e ∷ []) not.history;
    idle = idle;
    rose = subst (λ (j : Seen D). Rose (w.faults old.ledger.journal.disk) (w.faults j.disk)) (sym journal) not.rose;
    used = record {
      later = subst (λ (j : Seen D). w.faults old.ledger.journal.disk ≤ w.faults j.disk) (sym journal) not.used.later;
      time = λ t. subst (λ (j : Seen D). Elapses w.moment w.since old.ledger.journal.disk j.disk) (sym journal) (not.used.time t);
      shown = subst (λ (j : Seen D). ShowsTold w f (book_in old.ledger) (told f (book_in old.ledger)) old.ledger.journal j) (sym journal) not.used.shown;
    };
  }
