-- A call in which the disk failed before its own change leaves its agent's rows.
use Rattle.std.proofs.Common.{◌≡◌, List, [], fold, length, sym, ap, subst, ◌∙◌, append-nil}
use Rattle.opfs_store.specs.Acts.Acting.{told_entry}
use Rattle.opfs_base.specs.Texts.{Text}
use Rattle.opfs_books.specs.Laws.Books.{Fixed}
use Rattle.opfs_books.specs.Laws.Laws.{failed}
use Rattle.opfs_desk_steps.specs.Parts.Acted.{HasFailed}
use Rattle.opfs_desk_steps.specs.Parts.Seen.{call_in}
use Rattle.opfs_desk_steps.specs.declared.parts.call.ReadyCall.{ReadyCall}
use Rattle.opfs_desk_steps.specs.declared.parts.parts.Ledger.{Ledger}
use Rattle.opfs_desk_steps.specs.declared.parts.parts.OpenPages.{OpenPages}
use Rattle.opfs_desk_bytes.proofs.reading.Faulted.{own-refused}
use Rattle.opfs_desk_steps.proofs.Numbers.{agent-stays}
use Rattle.opfs_hist.specs.declared.entry.Entry.{Entry}
use Rattle.opfs_hist.specs.declared.reply.Refusal.TheVariants as refusal
use Rattle.opfs_hist.specs.declared.reply.Reply.{Reply}
use Rattle.opfs_hist.specs.declared.reply.Reply.TheVariants as reply
use Rattle.opfs_laws.proofs.histories.Adding.{calls-added}
use Rattle.opfs_laws.proofs.LocksEffect.{number-after}
use Rattle.opfs_machine.specs.declared.own.Own.{Own}
use Rattle.opfs_machine.specs.declared.state.State.{State}
use Rattle.opfs_machine.specs.Agents.{agent_of}
use Rattle.opfs_machine.specs.Histories.{IsCall, state_after}
use Rattle.opfs_machine.specs.Steps.{evicted, after_reply}
use Rattle.opfs_outside.specs.declared.disk.Disk.{Ghosts as DiskWords}

module _ {D : Type 0} (w : DiskWords D) (f : Fixed D) (mid new : Ledger D) (p : OpenPages) (c : ReadyCall) (r : Reply) (fail : HasFailed w f (told_entry (call_in c) r) mid new p) where
  abbrev pub base : State Text Own
  base = state_after f.opening mid.books.history

  state-is : state_after f.opening new.books.history ≡ after_reply (fold evicted base fail.gone) c.agent c.op (reply.No refusal.DiskFault)
  state-is =
      ap (λ (es : List Entry). state_after f.opening es) fail.grown
      ∙ (calls-added.state f.opening mid.books.history [] c.agent fail.gone (failed (told_entry (call_in c) r)) tt
      (subst (λ (es : List Entry). IsCall (state_after f.opening es) fail.gone (failed (told_entry (call_in c) r))) (sym (append-nil mid.books.history)) fail.call)
      ∙ ap (λ (es : List Entry). after_reply (fold evicted (state_after f.opening es) fail.gone) c.agent c.op (reply.No refusal.DiskFault)) (append-nil mid.books.history))

  pub rows-failed : length (agent_of (state_after f.opening new.books.history) c.agent).own ≡ length (agent_of base c.agent).own
  rows-failed =
      ap (λ (s : State Text Own). length (agent_of s c.agent).own) state-is
      ∙ own-refused (fold evicted base fail.gone) c.agent c.op (number-after base fail.gone c.agent fail.call.live)
      ∙ ap (λ a. length a.own) (agent-stays base fail.gone c.agent)
