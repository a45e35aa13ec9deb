-- A call that is asked for is judged as it stands after its agent's pending calls.
use Rattle.std.proofs.Common.{◌≡◌, ℕ, ◌-◌, List, [], ◌++◌, length, refl, sym, ap, ◌∙◌, subst}
use Rattle.std.specs.Prelude.{count_by, IsTrue}
use Rattle.std.proofs.lemmas.List.Sums.{fold-append}
use Rattle.opfs_store.specs.Acts.Asking.{MayAct}
use Rattle.opfs_base.specs.Texts.{Text}
use Rattle.opfs_books.proofs.laws.Told.{told-whole, whole-told}
use Rattle.opfs_books.specs.Laws.Books.{Fixed, IsToldAt}
use Rattle.opfs_books.specs.Laws.Commits.{StateLaws}
use Rattle.opfs_books.proofs.Following.{notes-follow, pending-notes}
use Rattle.opfs_state_rows.specs.Changes.Asking.{AreOwnUnits}
use Rattle.opfs_hist.specs.Sums.{makes_row, last_moment}
use Rattle.opfs_hist.specs.declared.entry.Entry.{Entry}
use Rattle.opfs_hist.specs.declared.history.PendingSum.{PendingSum}
use Rattle.opfs_hist.specs.declared.op.Op.{Op}
use Rattle.opfs_laws.proofs.histories.Reading.{pending-told, told-more, unread-state}
use Rattle.opfs_laws.specs.Histories.Unread.{ReadsLeaveTheState}
use Rattle.opfs_laws.proofs.Going.{go-on}
use Rattle.opfs_laws.proofs.Local.{pending-legal}
use Rattle.opfs_laws.specs.GoingOn.{ArePending}
use Rattle.opfs_laws.proofs.lengths.Readers.{agent-on}
use Rattle.opfs_laws.specs.Lengths.Bridge.{LengthsDecideEachRuling, LengthsFollowEachCall, LocalCallsAreKnownByTheirWord, judged_in}
use Rattle.opfs_laws.specs.Lengths.Kept.{Kept}
use Rattle.opfs_laws.specs.Lengths.Outlines.{in_lengths_of}
use Rattle.opfs_machine.specs.declared.own.Own.{Own}
use Rattle.opfs_machine.specs.declared.state.Sizes.{Sizes}
use Rattle.opfs_machine.specs.declared.state.State.{State}
use Rattle.opfs_machine.specs.Agents.{agent_of}
use Rattle.opfs_machine.specs.Contents.{in_bytes, in_lengths, outline_of}
use Rattle.opfs_machine.specs.Histories.{after_entry, state_after}
use Rattle.opfs_machine.specs.Openings.{begun}
use Rattle.opfs_machine.specs.Replies.{sizes_of}
use Rattle.opfs_machine.specs.Runs.{Call}
use Rattle.opfs_machine.specs.Steps.{judged}
use Rattle.opfs_outside.specs.declared.disk.Disk.{Ghosts as DiskWords}
use Rattle.opfs_records.specs.Replay.Built.{Built}
use Rattle.opfs_books.proofs.sharing.Pending.{sum-noted}
use Rattle.opfs_books.specs.Sharing.Noting.{noted}
use Rattle.opfs_state_rows.specs.Standing.Noted.{with_sum}
use Rattle.opfs_state_rows.specs.Standing.Seen.{Machine}
use Rattle.opfs_state.specs.Laws.Judged.{NotesDecideNothing}
use Rattle.opfs_state.specs.Laws.Owned.{CallsAreAboutOwnUnits}
use Rattle.opfs_state.specs.Verdicts.Callers.{IsAgent, IsCaller}
use Rattle.opfs_work.specs.Works.{WorkingCopy}
use Rattle.opfs_desk_steps.specs.Parts.Held.{AreHeldWhole}
use Rattle.opfs_desk_steps.specs.Parts.Seen.{machine_in}
use Rattle.opfs_desk_steps.specs.declared.parts.parts.Ledger.{Ledger}
use Rattle.opfs_desk_steps.specs.declared.parts.parts.OpenPages.{OpenPages}
use Rattle.opfs_desk_steps.proofs.Counts.{live-before}
use Rattle.opfs_desk_steps.proofs.Ready.{agent-of}
use Rattle.opfs_desk_steps.proofs.book_steps.Real.{real, real-legal, real-state, own-origin, own-units}
use Rattle.opfs_desk_steps.proofs.judging.Units.{own-before}

abbrev sum_of : List Entry → PendingSum
sum_of es = record { entries = length es; rows = count_by makes_row es; moment = last_moment es }

in-bytes : (s : State Text Own) (k : ℕ) (o : Op) → judged_in in_bytes s (sizes_of s k o) k o ≡ judged s k o
unfolding judged_in judged
in-bytes s k o = refl

module _ {D : Type 0} (w : DiskWords D) (states : StateLaws) (reads : ReadsLeaveTheState) (follow : LengthsFollowEachCall) (local : LocalCallsAreKnownByTheirWord) (f : Fixed D) (recorded : Built) (l : Ledger D) (p : OpenPages)
    (calls : List Entry) (c : Call) (work : WorkingCopy) (past : List Text) (held : AreHeldWhole w f recorded l p) (may : MayAct w.tells f.opening l.books.history calls c work past) where
  abbrev h : List Entry
  h = l.books.history

  abbrev before : State Text Own
  before = state_after f.opening h

  abbrev now : State Text Own
  now = state_after f.opening (h ++ calls)

  live : IsTrue (agent_of before c.agent).live
  live = live-before w.tells f.opening h calls c.agent may.pending may.live

  pub agent : IsAgent (machine_in l) c.agent
  agent = agent-of w reads follow local f recorded l p c.agent held live

  agent-same : agent_of (machine_in l) c.agent ≡ agent_of (in_lengths_of before) c.agent
  agent-same = ap (λ (m : Machine). agent_of m c.agent) held.books.machine

  pub caller : IsCaller (machine_in l) c.agent
  caller = record {
    live = ap (λ a. a.live) agent-same ∙ (ap (λ a. a.live) (agent-on length outline_of before c.agent) ∙ live);
    origin = λ key is.
        own-origin w.tells f.opening h reads held.books.told states.counts held.tied.keys c.agent key
        (sym (ap (λ a. a.key) (agent-on length outline_of before c.agent)) ∙ (sym (ap (λ a. a.key) agent-same) ∙ is));
  }

  pub kept : Kept (machine_in l)
  kept =
      subst Kept (sym held.books.machine)
      (subst (λ (s : State Text Own). Kept (in_lengths_of s)) (sym (real-state w.tells f.opening h reads held.books.told))
      (states.lengths.reached f.opening (real w.tells f.opening h reads held.books.told) held.books.whole (real-legal w.tells f.opening h reads held.books.told)))

  -- ---- after the pending calls

  told-now : IsToldAt w.tells f.opening (h ++ calls) now []
  told-now =
      let t = told-whole w.tells f.opening h before held.books.told in
      let q = pending-told w.tells before c.agent calls may.pending in
      whole-told w.tells f.opening (h ++ calls)
      (told-more w.tells f.opening h calls q.real t
      (go-on f.opening t.real q.real t.legal (pending-legal (state_after f.opening t.real) c.agent q.real (subst (λ s. ArePending s c.agent q.real) (unread-state f.opening h t.real t.alike) q.pending))).0
      q.alike q.told)

  summed : with_sum (machine_in l) (c.agent - 1) (sum_of calls) ≡ in_lengths_of now
  summed =
      sum-noted (machine_in l) c.agent (sum_of calls) calls agent.above agent.within (record { entries = refl; rows = refl; moment = refl }) (pending-notes follow local w.tells c.agent before calls may.pending)
      ∙ ap (λ x. noted x c.agent calls) held.books.machine
      ∙ notes-follow follow local w.tells c.agent before calls may.pending
      ∙ ap in_lengths_of (sym (fold-append after_entry (begun f.opening) h calls))

  pub own : CallsAreAboutOwnUnits → AreOwnUnits (machine_in l) c.agent c.op
  own about =
      own-before (machine_in l) c.agent (sum_of calls) c.op agent
      (subst (λ (m : Machine). AreOwnUnits m c.agent c.op) (sym summed)
      (own-units w.tells f.opening (h ++ calls) reads told-now states.counts held.tied.keys c.agent c.op may.fitting about))

  pub judged-now : LengthsDecideEachRuling → NotesDecideNothing → (z : Sizes) → z ≡ sizes_of now c.agent c.op → judged_in in_lengths (machine_in l) z c.agent c.op ≡ judged now c.agent c.op
  judged-now decide notes z is =
      sym (notes (machine_in l) c.agent (sum_of calls) z c.op agent)
      ∙ ap (λ (m : Machine). judged_in in_lengths m z c.agent c.op) summed
      ∙ decide.judged now z c.agent c.op
      ∙ ap (λ (x : Sizes). judged_in in_bytes now x c.agent c.op) is
      ∙ in-bytes now c.agent c.op
