-- A call that the machine refuses: its entry may come, and what it leaves.
use Rattle.std.proofs.Common.{◌≡◌, ℕ, ◌≤◌, false, List, [], ◌∷◌, ◌++◌, length, None, Err, refl, sym, ap, subst, ◌∙◌, inl, append_assoc, arith}
use Rattle.std.specs.Prelude.{IsTrue, count_by, ◌==◌}
use Rattle.std.proofs.lemmas.Bool.{false≢true, true≢false}
use Rattle.opfs_store.specs.Acts.Acting.{gift_of, told_entry, unread_gift}
use Rattle.opfs_store.specs.declared.acts.acted.Acted.{Acted}
use Rattle.opfs_store.specs.declared.acts.acted.Gift.TheVariants as gift
use Rattle.opfs_base.specs.Texts.{Text}
use Rattle.opfs_books.specs.Laws.Books.{Fixed, IsNext}
use Rattle.opfs_books.specs.Laws.Laws.{BooksShowTheirImages, told}
use Rattle.opfs_books.proofs.laws.Told.{next-state, next-reply}
use Rattle.opfs_hist.specs.declared.entry.Entry.{Entry}
use Rattle.opfs_hist.specs.declared.op.Op.{Op}
use Rattle.opfs_hist.specs.declared.op.Op.TheVariants as op
use Rattle.opfs_hist.specs.declared.reply.Refusal.{Refusal}
use Rattle.opfs_hist.specs.declared.reply.Reply.TheVariants as reply
use Rattle.opfs_hist.specs.Faults.{is_disk_fault}
use Rattle.opfs_laws.specs.Histories.Unread.{ReadsLeaveTheState}
use Rattle.opfs_laws.specs.Faults.{TheMachineNeverFaults}
use Rattle.opfs_laws.proofs.Numbers.{IsNumber, agent-set, number-of}
use Rattle.opfs_laws.specs.Lengths.Bridge.{LengthsFollowEachCall, LocalCallsAreKnownByTheirWord}
use Rattle.opfs_machine.specs.declared.own.Own.{Own}
use Rattle.opfs_machine.specs.declared.state.State.{State}
use Rattle.opfs_machine.specs.Agents.{agent_of, counted}
use Rattle.opfs_machine.specs.Effects.{refused}
use Rattle.opfs_machine.specs.Histories.{IsCall, may_enter, state_after}
use Rattle.opfs_machine.specs.Ruled.{Ruled}
use Rattle.opfs_machine.specs.Runs.{Call}
use Rattle.opfs_machine.specs.Steps.{step, judged, outcome_of}
use Rattle.opfs_outside.specs.declared.disk.Disk.{Ghosts as DiskWords}
use Rattle.opfs_records.specs.Replay.Built.{Built}
use Rattle.opfs_space.specs.Room.{Machine}
use Rattle.opfs_state.specs.Verdicts.Callers.{IsAgent}
use Rattle.opfs_work.specs.Works.{WorkingCopy}
use Rattle.opfs_desk_steps.specs.Parts.Acted.{HasActed, last_doubt}
use Rattle.opfs_desk_steps.specs.Parts.Held.{AreHeldWhole}
use Rattle.opfs_desk_steps.specs.Parts.Seen.{machine_in, book_in}
use Rattle.opfs_desk_steps.specs.declared.parts.parts.Ledger.{Ledger}
use Rattle.opfs_desk_steps.specs.declared.parts.parts.OpenPages.{OpenPages}
use Rattle.opfs_desk_steps.specs.BookSteps.Refusing.{IsRefused, MayRefuse}
use Rattle.opfs_desk_steps.specs.BookSteps.Taking.{MayTakeInto}
use Rattle.opfs_desk_steps.proofs.book_steps.Ways.{way-here}
use Rattle.opfs_desk_steps.specs.Acting.{CallsAreActed}
use Rattle.opfs_desk_steps.proofs.Counts.{calls-less, pending-entries, live-before, own-length, pending-rows}
use Rattle.opfs_desk_steps.proofs.Ready.{agent-of, last-of}
use Rattle.opfs_desk_entries.specs.Answers.Refused.{IsRefusedCall}

refused-answer : (s : State Text Own) (k : ℕ) (o : Op) (r : Refusal) → judged s k o ≡ Err r → (step s k o).answered ≡ reply.No r
unfolding step outcome_of
refused-answer s k o r is = ap (λ (u : Ruled (List Text)). (outcome_of s k o u).answered) is

refused-victims : (s : State Text Own) (k : ℕ) (o : Op) (r : Refusal) → judged s k o ≡ Err r → (step s k o).victims ≡ []
unfolding step outcome_of
refused-victims s k o r is = ap (λ (u : Ruled (List Text)). (outcome_of s k o u).victims) is

-- It gives nothing.
refused-gift : (s : State Text Own) (o : Op) (x : Refusal) → gift_of s o (reply.No x) ≡ gift.Nothing
unfolding gift_of
refused-gift s (op.GetFile at) x = refl
refused-gift s (op.Next n dir) x = refl
refused-gift s o x = refl

-- Its agent's rows stay.
own-refused : (s : State Text Own) (k : ℕ) (o : Op) → IsNumber s k → length (agent_of (counted (refused s k o) k) k).own ≡ length (agent_of s k).own
own-refused s k (op.Await tag) number = ap (λ a. length a.own) (agent-set s k (record (agent_of s k) { waits = None }) number)
own-refused s k o number = refl

abbrev pub refused_act : Refusal → ℕ → Acted
refused_act r rows = record { reply = reply.No r; gift = gift.Nothing; rows = rows }

module _ {D : Type 0} (w : DiskWords D) (reads : ReadsLeaveTheState) (follow : LengthsFollowEachCall) (local : LocalCallsAreKnownByTheirWord) (f : Fixed D) (recorded : Built) (l mid : Ledger D) (p : OpenPages) (calls : List Entry) (c : Call) (r : Refusal)
    (work : WorkingCopy) (past : List Text) (held : AreHeldWhole w f recorded l p) (is : IsRefusedCall w.tells f.opening l.books.history calls c r work past) where
  abbrev e : Entry
  e = told_entry c (reply.No r)

  pub may-take : MayTakeInto w l c.agent calls
  may-take =
      let h = l.books.history in
      let live = live-before w.tells f.opening h calls c.agent is.may.pending is.may.live in
      let agent = agent-of w reads follow local f recorded l p c.agent held live in
      record {
        fixed = f;
        recorded = recorded;
        pages = p;
        are = held;
        pending = is.may.pending;
        agent = agent;
        last = last-of w reads follow local f recorded l p c.agent held live;
        entries = pending-entries w.tells f.opening h calls c.agent is.may.pending is.may.place.entries;
        rows = omega (arith, pending-rows follow local w.tells f.opening h calls c.agent is.may.pending (machine_in l) held.books.machine agent, is.may.place.rows);
      }

  -- Once they are taken in.
  module _ (taken : mid.books.history ≡ l.books.history ++ calls) (then : AreHeldWhole w f recorded mid p) where
    abbrev base : State Text Own
    base = state_after f.opening mid.books.history

    same : base ≡ state_after f.opening (l.books.history ++ calls)
    same = ap (state_after f.opening) taken

    live-mid : IsTrue (agent_of base c.agent).live
    live-mid = subst (λ (s : State Text Own). IsTrue (agent_of s c.agent).live) (sym same) is.may.live

    pub agent-mid : IsAgent (machine_in mid) c.agent
    agent-mid = agent-of w reads follow local f recorded mid p c.agent then live-mid

    judged-mid : judged base c.agent c.op ≡ Err r
    judged-mid = ap (λ (s : State Text Own). judged s c.agent c.op) same ∙ is.refused

    its-call : IsCall base [] e
    its-call = record {
      live = live-mid;
      fitting = subst (λ (s : State Text Own). IsTrue (may_enter s c.agent c.op)) (sym same) is.may.fitting;
      agrees = inl (record { same_reply = sym (refused-answer base c.agent c.op r judged-mid); victims = sym (refused-victims base c.agent c.op r judged-mid) });
    }

    its-next : IsNext w.tells base [] e
    its-next = record { real = e; call = its-call; alike = refl; told = λ t. refl }

    no-fault : TheMachineNeverFaults → is_disk_fault (reply.No r) ≡ false
    no-fault never = ap is_disk_fault (sym (refused-answer base c.agent c.op r judged-mid)) ∙ never.call base c.agent c.op

    pub may-refuse : MayRefuse w mid e
    may-refuse = record {
      fixed = f;
      recorded = recorded;
      base = base;
      gone = [];
      pages = p;
      are = then;
      refuses = refl;
      placed = record {
        first = omega (arith, agent-mid.above);
        last = last-of w reads follow local f recorded mid p c.agent then live-mid;
        rest = let few = subst (λ (es : List Entry). count_by (λ x. x.agent == c.agent) es ≤ 60000001) (sym taken) is.may.place.entries in omega (arith, calls-less c.agent mid.books.history, few);
      };
      agent = agent-mid;
    }

    pub is-refused : TheMachineNeverFaults → IsRefused w f base [] mid e
    is-refused never = record { next = its-next; risen = λ fault. absurd (false≢true (sym (no-fault never) ∙ fault)) }

    -- And it was entered.
    pub has-acted : CallsAreActed w → TheMachineNeverFaults → BooksShowTheirImages w → mid.journal ≡ l.journal → mid.books.place ≡ l.books.place
        → (new : Ledger D) → new.books.history ≡ mid.books.history ++ e ∷ [] → new.journal ≡ mid.journal → new.books.state.store.prepared.place ≡ None → AreHeldWhole w f recorded new p
        → (rows : ℕ) → rows ≡ length (agent_of (machine_in mid) c.agent).own
        → HasActed w f (record { ledger = l; pages = p }) (record { ledger = new; pages = p }) calls c work work (refused_act r rows)
    has-acted acts never shows journal place new entries silent idle after rows rows-are = record {
      held = record { recorded = recorded; are = after; idle = idle };
      acted = record {
        gone = [];
        grown = entries ∙ ap (λ (es : List Entry). es ++ e ∷ []) taken ∙ append_assoc l.books.history calls (e ∷ []);
        call = record { real = e; call = subst (λ (s : State Text Own). IsCall s [] e) same its-call; alike = refl; told = λ t. refl };
      };
      left = record { refused = λ x. refl; stands = λ x. absurd (true≢false x); near = λ x brings. absurd (true≢false x) };
      gift =
          let none = refused-gift (state_after f.opening (l.books.history ++ calls)) c.op r in
          record { alike = ap unread_gift (sym none); told = λ t. sym none };
      rows =
          rows-are ∙ ap (λ (m : Machine). length (agent_of m c.agent).own) then.books.machine ∙ own-length base c.agent
          ∙ sym
          (ap (λ (es : List Entry). length (agent_of (state_after f.opening es) c.agent).own) entries
          ∙ ap (λ (s : State Text Own). length (agent_of s c.agent).own)
          (next-state w.tells f.opening mid.books.history base [] then.books.told e its-next ∙ next-reply w.tells f.opening mid.books.history base [] then.books.told e its-next)
          ∙ own-refused base c.agent c.op (number-of base c.agent live-mid));
      fault = λ fault. absurd (false≢true (sym (no-fault never) ∙ fault));
      way =
          acts.before f recorded l mid new p c.agent calls (told f (book_in new) ++ last_doubt f.opening new.books.history) held is.may.pending (record { entries = taken; journal = journal; place = place })
          (way-here w f recorded base [] mid new (told f (book_in new) ++ last_doubt f.opening new.books.history) shows then.books silent);
    }
