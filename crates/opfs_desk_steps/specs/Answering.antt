-- A call that is ready, and whose units are cleared: its entry may come. This project's own.
use Rattle.std.specs.Prelude.{◌≡◌, false, List, ◌∷◌, ◌++◌, map, IsTrue}
use Rattle.opfs_store.specs.Acts.Acting.{told_entry}
use Rattle.opfs_base.specs.Texts.{Text}
use Rattle.opfs_books.specs.Laws.Books.{Fixed}
use Rattle.opfs_state_rows.specs.Changes.Allowed.{IsSized}
use Rattle.opfs_hist.specs.declared.reply.Reply.{Reply}
use Rattle.opfs_laws.specs.Histories.Unread.{unread}
use Rattle.opfs_machine.specs.Agents.{agent_of}
use Rattle.opfs_machine.specs.Victims.{is_callers}
use Rattle.opfs_machine.specs.declared.own.Own.{Own}
use Rattle.opfs_machine.specs.declared.state.State.{State}
use Rattle.opfs_machine.specs.Histories.{is_disk_op, state_after}
use Rattle.opfs_machine.specs.Replies.{answer}
use Rattle.opfs_machine.specs.Runs.{eviction}
use Rattle.opfs_outside.specs.declared.disk.Disk.{Ghosts as DiskWords}
use Rattle.opfs_records.specs.Replay.Built.{Built}
use Rattle.opfs_state.specs.Applied.{IsPrepared}
use Rattle.opfs_desk_steps.specs.Parts.Answered.{IsAnswered}
use Rattle.opfs_desk_steps.specs.Parts.Held.{AreHeldAt, AreHeldWhole}
use Rattle.opfs_desk_steps.specs.Parts.Seen.{machine_in, call_in, units_in}
use Rattle.opfs_desk_steps.specs.declared.parts.call.ReadyCall.{ReadyCall}
use Rattle.opfs_desk_steps.specs.declared.parts.parts.Ledger.{Ledger}
use Rattle.opfs_desk_steps.specs.declared.parts.parts.OpenPages.{OpenPages}
use Rattle.opfs_desk_steps.specs.Ready.{IsReadyCall}
use Rattle.opfs_desk_steps.specs.BookSteps.Clearing.{MayMakeWay}

-- The reply is the machine's, but for the bytes of a read; with those too where the disk tells.
pub record IsReply (tells : Type 0) (s : State Text Own) (c : ReadyCall) (r : Reply) : Type 0 where
  pub alike : unread r ≡ unread (answer s c.sizes c.agent c.op)
  pub told : tells → r ≡ answer s c.sizes c.agent c.op

-- The units of a call are cleared, and all still stands ready.
pub record HasCleared {D : Type 0} (l new : Ledger D) (c : ReadyCall) : Type 0 where
  pub entries : new.books.history ≡ l.books.history ++ map eviction (units_in c.clearing.items)
  pub prepared : IsPrepared new.books.state c.agent c.op

pub record ReadyCallsAreAnswered {D : Type 0} (w : DiskWords D) : Type 0 where
  -- Its units may be cleared, where the disk may fail in it.
  pub clearing : (f : Fixed D) (recorded : Built) (l : Ledger D) (p : OpenPages) (c : ReadyCall) (r : Reply)
      → AreHeldWhole w f recorded l p → IsReadyCall (state_after f.opening l.books.history) l c → IsTrue (is_disk_op (state_after f.opening l.books.history) c.agent c.op)
      → MayMakeWay w l (told_entry (call_in c) r) c.clearing.items
  -- None of them is of the caller's origin.
  pub others : (f : Fixed D) (recorded : Built) (l : Ledger D) (p : OpenPages) (c : ReadyCall) (front : List Text) (unit : Text) (rest : List Text)
      → AreHeldWhole w f recorded l p → IsReadyCall (state_after f.opening l.books.history) l c → units_in c.clearing.items ≡ front ++ unit ∷ rest
      → is_callers (agent_of (state_after f.opening l.books.history) c.agent).key unit ≡ false
  -- Then its entry may come.
  pub answered : (f : Fixed D) (recorded next : Built) (l new : Ledger D) (p q : OpenPages) (c : ReadyCall) (r : Reply)
      → AreHeldWhole w f recorded l p → IsReadyCall (state_after f.opening l.books.history) l c → HasCleared l new c
      → AreHeldAt w f next (state_after f.opening l.books.history) (units_in c.clearing.items) new q
      → IsReply w.tells (state_after f.opening l.books.history) c r → IsSized (machine_in new) c.sizes c.agent c.op
      → IsAnswered w (state_after f.opening l.books.history) (units_in c.clearing.items) new (told_entry (call_in c) r) c.sizes
