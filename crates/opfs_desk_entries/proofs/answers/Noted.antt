-- The machine once an agent's pending calls are taken in: what its call makes adds as much to the charge as before.
use Rattle.std.proofs.Common.{◌≡◌, ◌-◌, List, ◌++◌, length, refl, sym, ap, ◌∙◌}
use Rattle.std.proofs.lemmas.List.Sums.{fold-append}
use Rattle.std.specs.Prelude.{count_by}
use Rattle.opfs_base.specs.Texts.{Text}
use Rattle.opfs_books.specs.Laws.Books.{Fixed}
use Rattle.opfs_books.proofs.Following.{notes-follow, pending-notes}
use Rattle.opfs_state_rows.specs.Changes.Asking.{growth_of}
use Rattle.opfs_hist.specs.Sums.{last_moment, makes_row}
use Rattle.opfs_hist.specs.declared.entry.Entry.{Entry}
use Rattle.opfs_hist.specs.declared.history.PendingSum.{PendingSum}
use Rattle.opfs_laws.specs.Lengths.Bridge.{LengthsFollowEachCall, LocalCallsAreKnownByTheirWord}
use Rattle.opfs_laws.specs.Lengths.Outlines.{in_lengths_of}
use Rattle.opfs_machine.specs.Histories.{after_entry, state_after}
use Rattle.opfs_machine.specs.Openings.{begun}
use Rattle.opfs_outside.specs.declared.disk.Disk.{Ghosts as DiskWords}
use Rattle.opfs_records.specs.Replay.Built.{Built}
use Rattle.opfs_books.specs.Sharing.Noting.{noted}
use Rattle.opfs_books.proofs.sharing.Pending.{sum-noted}
use Rattle.opfs_state_rows.specs.Standing.Noted.{with_sum}
use Rattle.opfs_state_rows.specs.Standing.Seen.{Machine}
use Rattle.opfs_state.specs.Laws.Readied.{StaysReadyAsNoted}
use Rattle.opfs_state.specs.Verdicts.Callers.{IsAgent}
use Rattle.opfs_work.specs.Works.{WorkingCopy}
use Rattle.opfs_desk_steps.specs.Parts.Seen.{machine_in}
use Rattle.opfs_desk_steps.specs.declared.parts.call.ReadyCall.{ReadyCall}
use Rattle.opfs_desk_steps.specs.declared.parts.parts.Ledger.{Ledger}
use Rattle.opfs_desk_steps.specs.declared.parts.parts.OpenPages.{OpenPages}
use Rattle.opfs_desk_steps.specs.Going.{HasTakenIn}
use Rattle.opfs_desk_entries.specs.Answers.Silent.{BeginsCall}
use Rattle.opfs_desk_entries.specs.Answers.Telling.{TellsOnly}

-- The sum of an agent's calls.
abbrev pub sum_of : List Entry → PendingSum
sum_of es = record { entries = length es; rows = count_by makes_row es; moment = last_moment es }

module _ {D : Type 0} (w : DiskWords D) (follow : LengthsFollowEachCall) (local : LocalCallsAreKnownByTheirWord)
    (f : Fixed D) (recorded : Built) (l : Ledger D) (p : OpenPages) (calls : List Entry) (c : ReadyCall) (work : WorkingCopy) (past : List Text)
    (begins : BeginsCall w f recorded l p calls c work past) (agent : IsAgent (machine_in l) c.agent) where
  pub noted-is : in_lengths_of (state_after f.opening (l.books.history ++ calls)) ≡ with_sum (machine_in l) (c.agent - 1) (sum_of calls)
  noted-is =
      sym
      (sum-noted (machine_in l) c.agent (sum_of calls) calls agent.above agent.within (record { entries = refl; rows = refl; moment = refl })
      (pending-notes follow local w.tells c.agent (state_after f.opening l.books.history) calls begins.asked.may.pending)
      ∙ ap (λ (x : Machine). noted x c.agent calls) begins.held.books.machine
      ∙ notes-follow follow local w.tells c.agent (state_after f.opening l.books.history) calls begins.asked.may.pending
      ∙ ap in_lengths_of (sym (fold-append after_entry (begun f.opening) l.books.history calls)))

  module _ (mid : Ledger D) (took : HasTakenIn w f recorded l mid p calls c) where
    pub mid-noted : machine_in mid ≡ with_sum (machine_in l) (c.agent - 1) (sum_of calls)
    mid-noted = took.held.books.machine ∙ (ap (λ (es : List Entry). in_lengths_of (state_after f.opening es)) took.taken.entries ∙ noted-is)

    growth-stays : StaysReadyAsNoted → growth_of (machine_in mid) c.agent c.op ≡ growth_of (machine_in l) c.agent c.op
    growth-stays noted_ready =
        let s = l.books.state in
        let was = begins.asked.prepared in
        ap (λ (m : Machine). growth_of m c.agent c.op) mid-noted
        ∙ (sym (noted_ready s.store s.target s.growth c.agent c.op (sum_of calls) agent was).growth
        ∙ was.growth)

    pub tells-mid : StaysReadyAsNoted → TellsOnly (machine_in l) c.agent c.op → TellsOnly (machine_in mid) c.agent c.op
    tells-mid noted_ready only = record { word = only.word; nothing = growth-stays noted_ready ∙ only.nothing }
