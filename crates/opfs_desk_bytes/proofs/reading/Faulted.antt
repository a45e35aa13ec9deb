-- A call for which the disk was read, and failed.
use Rattle.std.proofs.Common.{◌≡◌, ℕ, ◌+◌, List, [], ◌∷◌, ◌++◌, length, None, refl, sym, ap, subst, ◌∙◌, append-nil}
use Rattle.std.proofs.lemmas.Bool.{true≢false}
use Rattle.std.specs.Prelude.{IsTrue}
use Rattle.opfs_store.specs.Acts.Acting.{IsActed, IsSameCopy, gift_of, told_entry, unread_gift}
use Rattle.opfs_store.specs.declared.acts.acted.Gift.TheVariants as gift
use Rattle.opfs_base.specs.Texts.{Text}
use Rattle.opfs_books.specs.Laws.Books.{Fixed, IsNext}
use Rattle.opfs_books.specs.Laws.Laws.{BooksShowTheirImages, FaultsAreCounted, ReadsKeepTheBooks, failed, told}
use Rattle.opfs_books.proofs.laws.Told.{next-state, next-reply}
use Rattle.opfs_books.specs.declared.books.Books.{Books}
use Rattle.opfs_desk_steps.specs.Parts.Acted.{HasActed, last_doubt}
use Rattle.opfs_desk_steps.specs.Parts.Asked.{IsAsked}
use Rattle.opfs_desk_steps.specs.Parts.Held.{AreHeldWhole}
use Rattle.opfs_desk_steps.specs.Parts.Seen.{machine_in, book_in, call_in, units_in}
use Rattle.opfs_desk_steps.specs.declared.parts.call.ReadyCall.{ReadyCall}
use Rattle.opfs_desk_steps.specs.declared.parts.parts.Ledger.{Ledger}
use Rattle.opfs_desk_steps.specs.declared.parts.parts.OpenPages.{OpenPages}
use Rattle.opfs_desk_steps.specs.declared.parts.parts.DeskParts.{DeskParts}
use Rattle.opfs_desk_bytes.specs.Reading.Reading.{HasFailedToRead}
use Rattle.opfs_desk_bytes.proofs.reading.Readied.{Falls, read-way}
use Rattle.opfs_desk_steps.specs.Acting.{HasTaken, HasAdded, CallsAreActed, failed_act}
use Rattle.opfs_desk_steps.specs.Ready.{AskedCallsAreReady, IsReadyCall}
use Rattle.opfs_desk_steps.proofs.Counts.{own-length}
use Rattle.opfs_desk_steps.specs.BookSteps.Refusing.{IsRefused, MayRefuse}
use Rattle.opfs_desk_steps.proofs.book_steps.Turns.{may-fail}
use Rattle.opfs_desk_steps.proofs.book_steps.Ways.{way-here}
use Rattle.opfs_hist.specs.Faults.{disk_faults}
use Rattle.opfs_hist.specs.declared.entry.Entry.{Entry}
use Rattle.opfs_hist.specs.declared.op.Op.{Op}
use Rattle.opfs_hist.specs.declared.op.Op.TheVariants as op
use Rattle.opfs_hist.specs.declared.reply.Refusal.{Refusal}
use Rattle.opfs_hist.specs.declared.reply.Refusal.TheVariants as refusal
use Rattle.opfs_hist.specs.declared.reply.Reply.TheVariants as reply
use Rattle.opfs_journal.specs.Seen.{Seen}
use Rattle.opfs_laws.proofs.Numbers.{IsNumber, agent-set, number-of}
use Rattle.opfs_machine.specs.declared.own.Own.{Own}
use Rattle.opfs_machine.specs.declared.state.State.{State}
use Rattle.opfs_machine.specs.Agents.{agent_of, counted}
use Rattle.opfs_machine.specs.Changes.{Change}
use Rattle.opfs_machine.specs.Effects.{refused}
use Rattle.opfs_machine.specs.Histories.{IsCall, is_disk_op, state_after}
use Rattle.opfs_outside.specs.Faults.{Rose, RoseBy}
use Rattle.opfs_outside.specs.declared.disk.Disk.{Ghosts as DiskWords}
use Rattle.opfs_records.specs.Replay.Built.{Built}
use Rattle.opfs_space.specs.Room.{Machine}
use Rattle.opfs_state.specs.Applied.{IsPrepared, StateSeen}
use Rattle.opfs_state.specs.Verdicts.Callers.{IsAgent}
use Rattle.opfs_work.specs.Works.{WorkingCopy}

pub refused-gift : (s : State Text Own) (o : Op) (x : Refusal) → gift_of s o (reply.No x) ≡ gift.Nothing
unfolding gift_of
refused-gift s (op.GetFile at) x = refl
refused-gift s (op.Next n dir) x = refl
refused-gift s o x = refl

pub own-refused : (s : State Text Own) (k : ℕ) (o : Op) → IsNumber s k → length (agent_of (counted (refused s k o) k) k).own ≡ length (agent_of s k).own
own-refused s k (op.Await tag) number = ap (λ a. length a.own) (agent-set s k (record (agent_of s k) { waits = None }) number)
own-refused s k o number = refl

module _ {D : Type 0} (w : DiskWords D) (asks : AskedCallsAreReady w) (f : Fixed D) (recorded : Built) (start l mid : Ledger D) (before p : OpenPages) (calls : List Entry) (c : ReadyCall) (work : WorkingCopy) (past : List Text)
    (fail : HasFailedToRead w f recorded start l before p calls c work past) where
  abbrev pub e : Entry
  e = told_entry (call_in c) reply.Done

  pub asked-now : IsAsked w.tells f.opening l.books.history calls l.books.state c work past
  asked-now = subst (λ (b : Books StateSeen). IsAsked w.tells f.opening b.history calls b.state c work past) (sym fail.books) fail.asked

  module _ (taken : HasTaken l mid calls) (held : AreHeldWhole w f recorded mid p) (prepared : IsPrepared mid.books.state c.agent c.op) where
    abbrev pub base : State Text Own
    base = state_after f.opening mid.books.history

    ready : IsReadyCall base mid c
    ready = asks.ready f recorded l mid p calls c work past fail.are asked-now taken.entries held prepared

    same : base ≡ state_after f.opening (start.books.history ++ calls)
    same = ap (state_after f.opening) (taken.entries ∙ ap (λ (b : Books StateSeen). b.history ++ calls) fail.books)

    its-call : IsCall base [] (failed e)
    its-call =
        may-fail base e (units_in c.clearing.items) [] (units_in c.clearing.items)
        (record { live = ready.live; fitting = ready.fitting; judged = ready.judged; disk = subst (λ (s : State Text Own). IsTrue (is_disk_op s c.agent c.op)) (sym same) fail.disk }) refl

    its-next : IsNext w.tells base [] (failed e)
    its-next = record { real = failed e; call = its-call; alike = refl; told = λ t. refl }

    pub agent-mid : IsAgent (machine_in mid) c.agent
    agent-mid = ready.agent

    pub may-refuse : MayRefuse w mid (failed e)
    may-refuse = record {
      fixed = f;
      recorded = recorded;
      base = base;
      gone = [];
      pages = p;
      are = held;
      refuses = refl;
      placed = ready.placed;
      agent = ready.agent;
    }

    -- The count rose for it alone.
    pub is-refused : FaultsAreCounted w → IsRefused w f base [] mid (failed e)
    is-refused counts = record {
      next = its-next;
      risen = λ fault.
          subst (λ (j : Seen D). RoseBy (disk_faults mid.books.history + 1) (w.faults f.begun) (w.faults j.disk)) (sym taken.journal)
          (subst (λ (n : ℕ). RoseBy (n + 1) (w.faults f.begun) (w.faults l.journal.disk)) (sym faults)
          (counts.more (w.faults f.begun) start.journal.disk l.journal.disk start.books.history start.journal.in_doubt fail.held.books.counted fail.rose fail.reads.later));
    }
      where
        faults : disk_faults mid.books.history ≡ disk_faults start.books.history
        faults =
            ap disk_faults (taken.entries ∙ ap (λ (b : Books StateSeen). b.history ++ calls) fail.books)
            ∙ counts.pending (state_after f.opening start.books.history) c.agent start.books.history calls fail.asked.may.pending

    pub has-failed : CallsAreActed w → FaultsAreCounted w → BooksShowTheirImages w → ReadsKeepTheBooks w → Falls w
        → (new : DeskParts D) → new.ledger.books.history ≡ mid.books.history ++ failed e ∷ [] → new.ledger.journal ≡ mid.journal → new.ledger.books.state.store.prepared.place ≡ None → AreHeldWhole w f recorded new.ledger new.pages
        → (first : OpenPages) (after : WorkingCopy) (rows : ℕ) → IsSameCopy work after → rows ≡ length (agent_of (machine_in mid) c.agent).own
        → HasActed w f (record { ledger = start; pages = first }) new calls (call_in c) work after (failed_act rows)
    has-failed acts counts shows keep falls new entries silent idle now first after rows copy count = record {
      held = record { recorded = recorded; are = now; idle = idle };
      acted =
          subst (λ (b : Books StateSeen). IsActed w.tells f.opening b.history calls (call_in c) (reply.No refusal.DiskFault) new.ledger.books.history) fail.books
          (acts.acted f l mid mid new.ledger calls [] c (reply.No refusal.DiskFault) taken added its-next);
      left = record { refused = λ is. copy; stands = λ is. absurd (true≢false is); near = λ is brings. absurd (true≢false is) };
      gift =
          let none = refused-gift (state_after f.opening (start.books.history ++ calls)) c.op refusal.DiskFault in
          record { alike = ap unread_gift (sym none); told = λ t. sym none };
      rows =
          count ∙ ap (λ (m : Machine). length (agent_of m c.agent).own) held.books.machine ∙ own-length base c.agent
          ∙ sym
          (ap (λ (es : List Entry). length (agent_of (state_after f.opening es) c.agent).own) entries
          ∙ ap (λ (s : State Text Own). length (agent_of s c.agent).own)
          (next-state w.tells f.opening mid.books.history base [] held.books.told (failed e) its-next ∙ next-reply w.tells f.opening mid.books.history base [] held.books.told (failed e) its-next)
          ∙ own-refused base c.agent c.op (number-of base c.agent ready.live));
      fault = λ fault.
          subst (λ (j : Seen D). Rose (w.faults start.journal.disk) (w.faults j.disk)) (sym (silent ∙ taken.journal)) fail.rose;
      way = read-way w f start l fail.books fail.reads keep falls recorded (state_after f.opening start.books.history) [] before fail.held all new.ledger
          (acts.before f recorded l mid new.ledger p c.agent calls all fail.are asked-now.may.pending taken
          (acts.silent f mid mid new.ledger [] c (reply.No refusal.DiskFault) added silent (way-here w f recorded base [] mid mid (told f (book_in mid)) shows held.books refl)));
    }
      where
        added : HasAdded mid mid new.ledger [] c (reply.No refusal.DiskFault)
        added = record { cleared = sym (append-nil mid.books.history); added = entries }

        all : List Change
        all = told f (book_in new.ledger) ++ last_doubt f.opening new.ledger.books.history
