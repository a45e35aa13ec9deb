-- A call over parts in which only what stands ready is another.
use Rattle.std.proofs.Common.{◌≡◌, ℕ, ◌≤◌, if◌then◌else◌, List, [], ◌++◌, Option, None, Ok, Err, sym, ap, ◌∙◌, subst}
use Rattle.opfs_store.specs.Acts.Acting.{IsActed, IsGift, HasFaultOnlyIfRose}
use Rattle.opfs_store.specs.Acts.Asking.{MayAct}
use Rattle.opfs_store.specs.declared.acts.acted.Acted.{Acted}
use Rattle.opfs_base.specs.Texts.{Text}
use Rattle.opfs_books.specs.Laws.Books.{Fixed}
use Rattle.opfs_data.specs.Calls.{Reads}
use Rattle.opfs_commit.specs.Shown.{ShowsEither}
use Rattle.opfs_hist.specs.declared.entry.Entry.{Entry}
use Rattle.opfs_hist.specs.declared.op.Op.{Op}
use Rattle.opfs_hist.specs.declared.reply.Refusal.{Refusal}
use Rattle.opfs_laws.specs.Histories.Doubts.{doubted}
use Rattle.opfs_journal.specs.Seen.{Seen}
use Rattle.opfs_machine.specs.Changes.{Change, changes, floor}
use Rattle.opfs_machine.specs.Histories.{state_after}
use Rattle.opfs_machine.specs.Openings.{Opening}
use Rattle.opfs_machine.specs.Runs.{Call}
use Rattle.opfs_machine.specs.Steps.{judged}
use Rattle.opfs_outside.specs.Moments.{Elapses}
use Rattle.opfs_outside.specs.declared.disk.Disk.{Ghosts as DiskWords}
use Rattle.opfs_records.specs.Replay.Built.{Built}
use Rattle.opfs_state.specs.Applied.{StateSeen}
use Rattle.opfs_work.specs.Works.{WorkingCopy}
use Rattle.opfs_desk_steps.specs.Judging.Asking.{IsAskedAs, IsReadied}
use Rattle.opfs_desk_steps.specs.declared.judging.judged.Judged.{Judged}
use Rattle.opfs_desk_steps.specs.declared.judging.judged.Judged.TheVariants as judged
use Rattle.opfs_desk_steps.specs.declared.judging.judged.Readiness.{Readiness}
use Rattle.opfs_desk_steps.proofs.judging.Same.{same-held}
use Rattle.opfs_pages.specs.HistoryLaws.Handles.{AreHandlesWhole}
use Rattle.opfs_desk_steps.specs.Parts.Acted.{HasActed, IsUnacted, IsWay}
use Rattle.opfs_desk_steps.specs.Parts.Asked.{AreEvictions, IsAsked}
use Rattle.opfs_desk_steps.specs.Parts.Held.{AreHeldWhole}
use Rattle.opfs_desk_steps.specs.Parts.Seen.{call_in, units_in}
use Rattle.opfs_desk_steps.specs.declared.parts.call.Eviction.{Eviction}
use Rattle.opfs_desk_steps.specs.declared.parts.call.ReadyCall.{ReadyCall}
use Rattle.opfs_desk_steps.specs.declared.parts.parts.Ledger.{Ledger}
use Rattle.opfs_desk_steps.specs.declared.parts.parts.OpenPages.{OpenPages}
use Rattle.opfs_desk_steps.specs.declared.parts.parts.DeskParts.{DeskParts}
use Rattle.opfs_desk_entries.specs.Answers.Refused.{IsRefusedCall}
use Rattle.opfs_desk_bytes.specs.Reading.Reading.{HaveWholeHandles}
use Rattle.opfs_desk_steps.proofs.book_steps.Ways.{reads-here}
use Rattle.opfs_desk.specs.Dispatch.Calling.{HasNoneReady, IsLeftAlone}

-- ---- nothing stands ready any more

module _ {D : Type 0} (w : DiskWords D) (f : Fixed D) (old : DeskParts D) where
  pub left-alone : (l new : Ledger D) (p : OpenPages) → HasNoneReady l new → IsUnacted w f old (record { ledger = l; pages = p }) → IsLeftAlone w f old (record { ledger = new; pages = p })
  left-alone l new p none un =
      subst (λ (x : Ledger D). IsLeftAlone w f old (record { ledger = x; pages = p })) (sym none.rest)
      (record {
        held = record {
          recorded = un.recorded;
          are = same-held w f un.recorded l p new.books.state none.machine none.tree un.are;
          idle = none.idle;
        };
        entries = un.entries;
        reads = un.reads;
      })

-- ---- what became of a call that was asked for

module _ (o : Opening) (h calls : List Entry) (s : StateSeen) (k : ℕ) (called : Op) (a : Judged) where
  pub refused-as : (r : Refusal) → a ≡ judged.Refused r → IsAskedAs o h calls s k called a → judged (state_after o (h ++ calls)) k called ≡ Err r
  refused-as r is as_it = (subst (λ (x : Judged). IsAskedAs o h calls s k called x) is as_it).refused

  pub readied-as : (r : Readiness) → a ≡ judged.Ready r → IsAskedAs o h calls s k called a → IsReadied o h calls s k called r
  readied-as r is as_it = subst (λ (x : Judged). IsAskedAs o h calls s k called x) is as_it

-- ---- over parts before the call was asked for

module _ {D : Type 0} (w : DiskWords D) (f : Fixed D) (old : DeskParts D) (mid : Ledger D) (journal : mid.journal ≡ old.ledger.journal) (entries : mid.books.history ≡ old.ledger.books.history) (place : mid.books.place ≡ old.ledger.books.place) where
  abbrev pub parts_then : DeskParts D
  parts_then = record { ledger = mid; pages = old.pages }

  -- What the images show that are left by a new ledger.
  abbrev Shown : List Change → Ledger D → Seen D → List Entry → Option ℕ → Type 0
  Shown all new j h at = ShowsEither w f.opening (floor (changes f.opening h)) all (changes f.opening h ++ (if j.in_doubt then doubted f.opening h at else [])) j.disk new.journal.disk

  pub way-before : (all : List Change) (new : Ledger D) → IsWay w f all mid new → IsWay w f all old.ledger new
  way-before all new way = record {
    later = subst (λ (j : Seen D). w.faults j.disk ≤ w.faults new.journal.disk) journal way.later;
    time = λ t. subst (λ (j : Seen D). Elapses w.moment w.since j.disk new.journal.disk) journal (way.time t);
    shown = λ t.
        subst (λ (at : Option ℕ). Shown all new old.ledger.journal old.ledger.books.history at) place
        (subst (λ (h : List Entry). Shown all new old.ledger.journal h mid.books.place) entries
        (subst (λ (j : Seen D). Shown all new j mid.books.history mid.books.place) journal (way.shown t)));
  }

  pub acted-before : (new : DeskParts D) (calls : List Entry) (c : Call) (before after : WorkingCopy) (done : Acted) → HasActed w f parts_then new calls c before after done → HasActed w f old new calls c before after done
  acted-before new calls c before after done acted = record {
    held = acted.held;
    acted = subst (λ (h : List Entry). IsActed w.tells f.opening h calls c done.reply new.ledger.books.history) entries acted.acted;
    left = acted.left;
    gift = subst (λ (h : List Entry). IsGift w.tells (state_after f.opening (h ++ calls)) c.op done.reply done.gift) entries acted.gift;
    rows = acted.rows;
    fault = subst (λ (j : Seen D). HasFaultOnlyIfRose done.reply (w.faults j.disk) (w.faults new.ledger.journal.disk)) journal acted.fault;
    way = way-before _ new.ledger acted.way;
  }

  pub alone-before : (new : DeskParts D) → IsLeftAlone w f parts_then new → IsLeftAlone w f old new
  alone-before new alone = record { held = alone.held; entries = alone.entries ∙ entries; reads = subst (λ (j : Seen D). Reads w j new.ledger.journal) journal alone.reads }

  -- ---- and what is asked of it then

  pub refused-now : (calls : List Entry) (c : Call) (r : Refusal) (work : WorkingCopy) (past : List Text) → MayAct w.tells f.opening old.ledger.books.history calls c work past → judged (state_after f.opening (old.ledger.books.history ++ calls)) c.agent c.op ≡ Err r
      → IsRefusedCall w.tells f.opening mid.books.history calls c r work past
  refused-now calls c r work past may refused = subst (λ (h : List Entry). IsRefusedCall w.tells f.opening h calls c r work past) (sym entries) (record { may = may; refused = refused })

  pub readied-now : (calls : List Entry) (c : ReadyCall) (r : Readiness) (work : WorkingCopy) (past : List Text) → c.sizes ≡ r.sizes → c.clearing.items ≡ r.clearing.items → MayAct w.tells f.opening old.ledger.books.history calls (call_in c) work past
      → IsReadied f.opening old.ledger.books.history calls mid.books.state c.agent c.op r → IsAsked w.tells f.opening mid.books.history calls mid.books.state c work past
  readied-now calls c r work past sizes clearing may ready =
      subst (λ (h : List Entry). IsAsked w.tells f.opening h calls mid.books.state c work past) (sym entries)
      (record {
        may = may;
        sizes = sizes ∙ ready.sizes;
        judged = ready.judged ∙ ap (λ (xs : List Eviction). Ok (units_in xs)) (sym clearing);
        prepared = ready.prepared;
        evictions = subst AreEvictions (sym clearing) ready.evictions;
      })

  pub whole-now : (recorded : Built) → AreHeldWhole w f recorded mid old.pages → AreHandlesWhole f.opening old.ledger.books.history → HaveWholeHandles w parts_then
  whole-now recorded are whole = record { fixed = f; recorded = recorded; are = are; whole = subst (AreHandlesWhole f.opening) (sym entries) whole }

  pub alone-now : (recorded : Built) → AreHeldWhole w f recorded mid old.pages → mid.books.state.store.prepared.place ≡ None → IsLeftAlone w f old parts_then
  alone-now recorded held idle = record {
    held = record { recorded = recorded; are = held; idle = idle };
    entries = entries;
    reads = subst (λ (j : Seen D). Reads w j mid.journal) journal (reads-here w mid.journal);
  }
