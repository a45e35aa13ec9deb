-- A call that opens a row, in which the disk failed: its agent has the rows that it had.
use Rattle.std.proofs.Common.{◌≡◌, ℕ, ◌-◌, true, List, [], fold, length, refl, sym, ap, ◌∙◌, subst, append-nil, arith}
use Rattle.opfs_store.specs.Acts.Acting.{told_entry}
use Rattle.opfs_base.specs.Texts.{Text}
use Rattle.opfs_books.specs.Laws.Books.{Fixed}
use Rattle.opfs_books.specs.Laws.Laws.{failed}
use Rattle.opfs_hist.specs.declared.entry.Entry.{Entry}
use Rattle.opfs_hist.specs.declared.op.Op.{Op}
use Rattle.opfs_hist.specs.declared.op.Op.TheVariants as op
use Rattle.opfs_hist.specs.declared.reply.Refusal.TheVariants as refusal
use Rattle.opfs_hist.specs.declared.reply.Reply.{Reply}
use Rattle.opfs_hist.specs.declared.reply.Reply.TheVariants as reply
use Rattle.opfs_laws.proofs.histories.Adding.{calls-added}
use Rattle.opfs_machine.specs.declared.own.Own.{Own}
use Rattle.opfs_machine.specs.declared.state.Agent.{Agent}
use Rattle.opfs_machine.specs.declared.state.State.{State}
use Rattle.opfs_machine.specs.Agents.{agent_in, agent_of}
use Rattle.opfs_machine.specs.Effects.{refused}
use Rattle.opfs_machine.specs.Histories.{IsCall, state_after}
use Rattle.opfs_machine.specs.Steps.{evicted, after_reply}
use Rattle.opfs_outside.specs.declared.disk.Disk.{Ghosts as DiskWords}
use Rattle.opfs_desk_steps.specs.Parts.Acted.{HasFailed}
use Rattle.opfs_desk_steps.specs.Parts.Seen.{call_in}
use Rattle.opfs_desk_steps.specs.declared.parts.call.ReadyCall.{ReadyCall}
use Rattle.opfs_desk_steps.specs.declared.parts.parts.Ledger.{Ledger}
use Rattle.opfs_desk_steps.specs.declared.parts.parts.OpenPages.{OpenPages}
use Rattle.opfs_desk_steps.specs.RowLaws.Opens.{next_row, opens_row}
use Rattle.opfs_desk_steps.proofs.Numbers.{agent-stays}

refused-agents : (s : State Text Own) (k : ℕ) (o : Op) → opens_row o ≡ true → (refused s k o).agents ≡ s.agents
refused-agents s k (op.CreateWritable at keep) h = refl
refused-agents s k (op.CreateSyncAccessHandle at mode) h = refl
refused-agents s k o h = cc

module _ {D : Type 0} (w : DiskWords D) (f : Fixed D) (mid new : Ledger D) (p : OpenPages) (c : ReadyCall) (r : Reply) (opens : opens_row c.op ≡ true) (fail : HasFailed w f (told_entry (call_in c) r) mid new p) where
  state-is : state_after f.opening new.books.history ≡ after_reply (fold evicted (state_after f.opening mid.books.history) fail.gone) c.agent c.op (reply.No refusal.DiskFault)
  state-is =
      ap (λ (es : List Entry). state_after f.opening es) fail.grown
      ∙ (calls-added.state f.opening mid.books.history [] c.agent fail.gone (failed (told_entry (call_in c) r)) tt
      (subst (λ (es : List Entry). IsCall (state_after f.opening es) fail.gone (failed (told_entry (call_in c) r))) (sym (append-nil mid.books.history)) fail.call)
      ∙ ap (λ (es : List Entry). after_reply (fold evicted (state_after f.opening es) fail.gone) c.agent c.op (reply.No refusal.DiskFault)) (append-nil mid.books.history))

  pub agent-is : agent_of (state_after f.opening new.books.history) c.agent ≡ agent_of (state_after f.opening mid.books.history) c.agent
  agent-is =
      ap (λ (s : State Text Own). agent_of s c.agent) state-is
      ∙ (ap (λ (agents : List (Agent Own)). agent_in agents c.agent) (refused-agents (fold evicted (state_after f.opening mid.books.history) fail.gone) c.agent c.op opens)
      ∙ agent-stays (state_after f.opening mid.books.history) fail.gone c.agent)

  pub rows-left : (row : ℕ) → row ≡ next_row (state_after f.opening mid.books.history) c.agent → row - 1 ≡ length (agent_of (state_after f.opening new.books.history) c.agent).own
  rows-left row is = omega (arith, is, ap (λ a. length a.own) agent-is)
