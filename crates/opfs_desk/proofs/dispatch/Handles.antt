-- The access handle that a call flushes or closes is open before its agent's pending calls.
use Rattle.std.proofs.Common.{◌≡◌, ℕ, ◌-◌, zero, suc, true, is_some, List, ◌++◌, length, option_map, refl, sym, ap, ◌∙◌, arith}
use Rattle.std.specs.Prelude.{IsTrue}
use Rattle.opfs_store.specs.Acts.Asking.{names_open}
use Rattle.opfs_base.specs.Texts.{Text}
use Rattle.opfs_books.specs.Laws.Books.{Fixed}
use Rattle.opfs_hist.specs.declared.entry.Entry.{Entry}
use Rattle.opfs_hist.specs.declared.history.PendingSum.{PendingSum}
use Rattle.opfs_hist.specs.declared.op.Op.{Op}
use Rattle.opfs_hist.specs.declared.op.Op.TheVariants as op
use Rattle.opfs_laws.specs.Lengths.Bridge.{LengthsFollowEachCall, LocalCallsAreKnownByTheirWord}
use Rattle.opfs_laws.specs.Lengths.Outlines.{in_lengths_of}
use Rattle.opfs_laws.proofs.lengths.Readers.{row-at-on}
use Rattle.opfs_machine.specs.declared.own.Outline.{Outline}
use Rattle.opfs_machine.specs.declared.own.Own.{Own}
use Rattle.opfs_machine.specs.declared.state.Agent.{Agent}
use Rattle.opfs_machine.specs.declared.state.State.{State}
use Rattle.opfs_machine.specs.Agents.{agent_of, handle_in, of_row, open_handle, own_of}
use Rattle.opfs_machine.specs.Contents.{in_lengths, outline_of}
use Rattle.opfs_machine.specs.Histories.{is_handle, may_enter, state_after}
use Rattle.opfs_outside.specs.declared.disk.Disk.{Ghosts as DiskWords}
use Rattle.opfs_records.specs.Replay.Built.{Built}
use Rattle.opfs_state_rows.specs.Standing.Noted.{with_sum}
use Rattle.opfs_state_rows.specs.Standing.Seen.{Machine}
use Rattle.opfs_state.proofs.laws.Readying.{agent-noted, handle-noted}
use Rattle.opfs_state.specs.Verdicts.Callers.{IsAgent}
use Rattle.opfs_work.specs.Works.{WorkingCopy}
use Rattle.opfs_desk_steps.proofs.judging.Named.{IsNamed, handle-named}
use Rattle.opfs_desk_steps.specs.Parts.Seen.{machine_in}
use Rattle.opfs_desk_steps.specs.declared.parts.call.ReadyCall.{ReadyCall}
use Rattle.opfs_desk_steps.specs.declared.parts.parts.Ledger.{Ledger}
use Rattle.opfs_desk_steps.specs.declared.parts.parts.OpenPages.{OpenPages}
use Rattle.opfs_desk_entries.specs.Answers.Silent.{BeginsCall}
use Rattle.opfs_desk_entries.proofs.answers.Noted.{noted-is, sum_of}
use Rattle.opfs_desk_entries.proofs.answers.Words.{before}
use Rattle.opfs_desk.specs.Dispatch.Kinds.{has_handle}

handle-at : (m : Machine) (k : ℕ) (sum : PendingSum) (n : ℕ) → IsAgent m k → open_handle in_lengths (with_sum m (k - 1) sum) k n ≡ open_handle in_lengths m k n
handle-at m zero sum n agent = absurd (omega (arith, agent.above))
handle-at m (suc at) sum n agent =
    ap (λ (i : ℕ). open_handle in_lengths (with_sum m i sum) (suc at) n) (before at)
    ∙ (ap (λ (a : Agent Outline). of_row handle_in (own_of a n)) (agent-noted m at sum (omega (arith, agent.within))) ∙ handle-noted (agent_of m (suc at)) sum.rows sum.moment n)

module _ (s : State Text Own) (m : Machine) (k : ℕ) (sum : PendingSum) (agent : IsAgent m k) (noted : in_lengths_of s ≡ with_sum m (k - 1) sum) where
  handle-there : (n : ℕ) → is_handle (own_of (agent_of s k) n) ≡ true → IsNamed s k n → is_some (open_handle in_lengths m k n) ≡ true
  handle-there n may opened =
      ap (λ x. is_some x)
      (sym (handle-at m k sum n agent)
      ∙ ap (λ (x : Machine). open_handle in_lengths x k n) (sym noted)
      ∙ ap (of_row handle_in) (row-at-on length outline_of s k n ∙ ap (λ x. option_map outline_of x) (handle-named s k n may opened).1))

  pub handle-open : (o : Op) → IsTrue (may_enter s k o) → IsTrue (names_open s k o) → has_handle m k o ≡ true
  unfolding may_enter
  handle-open (op.SyncFlush n) may opened = handle-there n may opened
  handle-open (op.SyncClose n) may opened = handle-there n may opened
  handle-open o may opened = refl

pub has-handle : {D : Type 0} (w : DiskWords D) → LengthsFollowEachCall → LocalCallsAreKnownByTheirWord → (f : Fixed D) (recorded : Built) (l : Ledger D) (p : OpenPages) (calls : List Entry) (c : ReadyCall) (work : WorkingCopy) (past : List Text)
    → BeginsCall w f recorded l p calls c work past → IsAgent (machine_in l) c.agent → has_handle (machine_in l) c.agent c.op ≡ true
has-handle w follow local f recorded l p calls c work past begins agent =
    handle-open (state_after f.opening (l.books.history ++ calls)) (machine_in l) c.agent (sum_of calls) agent (noted-is w follow local f recorded l p calls c work past begins agent) c.op begins.asked.may.fitting begins.asked.may.opened
