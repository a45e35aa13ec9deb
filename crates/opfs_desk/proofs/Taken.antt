-- An agent's pending calls, that a desk takes in without a call.
use Rattle.std.proofs.Common.{◌≡◌, ℕ, List, ◌++◌, sym, ap, ◌∙◌, subst, refl, arith}
use Rattle.opfs_store.specs.Acts.Asking.{MayTakePending}
use Rattle.opfs_books.specs.Laws.Books.{Fixed}
use Rattle.opfs_hist.specs.declared.entry.Entry.{Entry}
use Rattle.opfs_journal.specs.Seen.{Seen}
use Rattle.opfs_laws.specs.Histories.Unread.{ReadsLeaveTheState}
use Rattle.opfs_laws.specs.Lengths.Bridge.{LengthsFollowEachCall, LocalCallsAreKnownByTheirWord}
use Rattle.opfs_machine.specs.Histories.{state_after}
use Rattle.opfs_outside.specs.Moments.{Elapses}
use Rattle.opfs_outside.specs.declared.disk.Disk.{Ghosts as DiskWords}
use Rattle.opfs_pages.specs.HistoryLaws.Handles.{AreHandlesWhole, HandlesStayWhole}
use Rattle.opfs_desk_steps.specs.BookSteps.Taking.{MayTakeInto}
use Rattle.opfs_desk_steps.specs.Iterating.Known.{AreReached, Lasts}
use Rattle.opfs_desk_steps.specs.Iterating.Reached.{HasReached}
use Rattle.opfs_desk_steps.specs.Parts.Held.{AreHeld, AreHeldWhole}
use Rattle.opfs_desk_steps.specs.Parts.Seen.{machine_in}
use Rattle.opfs_desk_steps.specs.declared.parts.parts.DeskParts.{DeskParts}
use Rattle.opfs_desk_steps.specs.declared.parts.parts.Ledger.{Ledger}
use Rattle.opfs_desk_steps.proofs.Counts.{live-before, pending-entries, pending-rows}
use Rattle.opfs_desk_steps.proofs.Ready.{agent-of, last-of}
use Rattle.opfs_desk_steps.proofs.book_steps.Taken.{pending-told}
use Rattle.opfs_desk_steps.proofs.iterating.Pending.{pending-known}
use Rattle.opfs_desk_steps.proofs.judging.Same.{same-held}
use Rattle.opfs_desk_bytes.proofs.reading.Wholes.{pending-whole}
use Rattle.opfs_desk.specs.Dispatch.Calling.{HasNoneReady}
use Rattle.opfs_desk.specs.Moments.{KeepsContents, ShowsFronts}
use Rattle.opfs_desk.specs.Resting.{IsAtRest}
use Rattle.opfs_desk.proofs.Moments.{fronts-more, keeps-more}

-- Where nothing stands ready any more, the journal and the history are as before.
pub journal-idle : {D : Type 0} (mid new : Ledger D) → HasNoneReady mid new → new.journal ≡ mid.journal
journal-idle {D} mid new none = ap (λ (l : Ledger D). l.journal) none.rest

pub entries-idle : {D : Type 0} (mid new : Ledger D) → HasNoneReady mid new → new.books.history ≡ mid.books.history
entries-idle {D} mid new none = ap (λ (l : Ledger D). l.books.history) none.rest

module _ {D : Type 0} (w : DiskWords D) (f : Fixed D) (old : DeskParts D) (calls : List Entry) (k : ℕ) (rest : IsAtRest w f old) (may : MayTakePending w.tells f.opening old.ledger.books.history calls k) where
  pub may-take : ReadsLeaveTheState → LengthsFollowEachCall → LocalCallsAreKnownByTheirWord → MayTakeInto w old.ledger k calls
  may-take reads follow local =
      let l = old.ledger in
      let h = l.books.history in
      let recorded = rest.held.recorded in
      let are = rest.held.are in
      let live = live-before w.tells f.opening h calls k may.pending may.live in
      let agent = agent-of w reads follow local f recorded l old.pages k are live in
      record {
        fixed = f;
        recorded = recorded;
        pages = old.pages;
        are = are;
        pending = may.pending;
        agent = agent;
        last = last-of w reads follow local f recorded l old.pages k are live;
        entries = pending-entries w.tells f.opening h calls k may.pending may.place.entries;
        rows = omega (arith, pending-rows follow local w.tells f.opening h calls k may.pending (machine_in l) are.books.machine agent, may.place.rows);
      }

  -- They were taken in, and nothing stands ready.
  module _ (mid new : Ledger D) (journal : mid.journal ≡ old.ledger.journal) (entries : mid.books.history ≡ old.ledger.books.history ++ calls) (none : HasNoneReady mid new) where
    entries-now : new.books.history ≡ old.ledger.books.history ++ calls
    entries-now = entries-idle mid new none ∙ entries

    disk-now : new.journal.disk ≡ old.ledger.journal.disk
    disk-now = ap (λ (j : Seen D). j.disk) (journal-idle mid new none ∙ journal)

    held-now : AreHeldWhole w f rest.held.recorded mid old.pages → AreHeld w f (record { ledger = new; pages = old.pages })
    held-now are =
        subst (λ (l : Ledger D). AreHeld w f (record { ledger = l; pages = old.pages })) (sym none.rest)
        (record {
          recorded = rest.held.recorded;
          are = same-held w f rest.held.recorded mid old.pages new.books.state none.machine none.tree are;
          idle = none.idle;
        })

    pub rests-taken : HandlesStayWhole → AreHeldWhole w f rest.held.recorded mid old.pages → IsAtRest w f (record { ledger = new; pages = old.pages })
    rests-taken handles are =
        let o = f.opening in
        let h = old.ledger.books.history in
        let disk = old.ledger.journal.disk in
        record {
          held = held-now are;
          whole = subst (AreHandlesWhole o) (sym entries-now) (pending-whole handles w.tells o h calls k may.pending rest.whole);
          time = λ t. subst (λ (x : D). Elapses w.moment w.since f.begun x) (sym disk-now) (rest.time t);
          fronts = λ t.
              subst (λ (x : D). ShowsFronts w o new.books.history f.begun x) (sym disk-now)
              (subst (λ (es : List Entry). ShowsFronts w o es f.begun disk) (sym entries-now) (fronts-more w o h calls disk f.begun (rest.fronts t)));
          keeps = λ t.
              subst (λ (x : D). KeepsContents w o new.books.history x) (sym disk-now)
              (subst (λ (es : List Entry). KeepsContents w o es disk) (sym entries-now) (keeps-more w o h calls disk (pending-told w.tells o k h calls (h ++ calls) may.pending refl) (rest.keeps t)));
        }

    -- What is known of iterators stays so.
    pub reached-taken : (lasts : Lasts) → AreReached (state_after f.opening old.ledger.books.history) lasts → AreReached (state_after f.opening new.books.history) lasts
    reached-taken lasts reached m n last is =
        subst (λ (es : List Entry). HasReached (state_after f.opening es) m n last) (sym entries-now)
        (pending-known w.tells f.opening old.ledger.books.history calls k m n last may.pending (reached m n last is))
