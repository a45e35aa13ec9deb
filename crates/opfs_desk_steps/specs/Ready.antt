-- A call that is asked for, once its agent's pending calls are taken in. This project's own.
use Rattle.std.specs.Prelude.{◌≡◌, ◌+◌, ◌<◌, List, ◌++◌, length, count_by, Ok, IsTrue}
use Rattle.opfs_base.specs.Texts.{Text}
use Rattle.opfs_books.specs.Laws.Books.{Fixed, IsPlaced}
use Rattle.opfs_hist.specs.Sums.{makes_row}
use Rattle.opfs_hist.specs.declared.entry.Entry.{Entry}
use Rattle.opfs_machine.specs.declared.own.Own.{Own}
use Rattle.opfs_machine.specs.declared.state.State.{State}
use Rattle.opfs_machine.specs.Agents.{agent_of}
use Rattle.opfs_machine.specs.Histories.{may_enter, state_after}
use Rattle.opfs_machine.specs.Replies.{sizes_of}
use Rattle.opfs_machine.specs.Steps.{judged}
use Rattle.opfs_outside.specs.declared.disk.Disk.{Ghosts as DiskWords}
use Rattle.opfs_records.specs.Replay.Built.{Built}
use Rattle.opfs_register.specs.Slots.{most_rows}
use Rattle.opfs_state.specs.Applied.{IsPrepared}
use Rattle.opfs_state.specs.Verdicts.Callers.{IsAgent}
use Rattle.opfs_work.specs.Works.{WorkingCopy}
use Rattle.opfs_desk_steps.specs.Parts.Asked.{IsAsked, AreEvictions}
use Rattle.opfs_desk_steps.specs.Parts.Held.{AreHeldWhole}
use Rattle.opfs_desk_steps.specs.Parts.Seen.{machine_in, units_in}
use Rattle.opfs_desk_steps.specs.declared.parts.call.ReadyCall.{ReadyCall}
use Rattle.opfs_desk_steps.specs.declared.parts.parts.Ledger.{Ledger}
use Rattle.opfs_desk_steps.specs.declared.parts.parts.OpenPages.{OpenPages}
use Rattle.opfs_desk_steps.specs.BookSteps.Taking.{MayTakeInto}

-- It is live and fits, it is judged in this state, and all stands ready for it; its agent has room for an entry and a row more.
pub record IsReadyCall {D : Type 0} (s : State Text Own) (l : Ledger D) (c : ReadyCall) : Type 0 where
  pub live : IsTrue (agent_of s c.agent).live
  pub fitting : IsTrue (may_enter s c.agent c.op)
  pub sizes : c.sizes ≡ sizes_of s c.agent c.op
  pub judged : judged s c.agent c.op ≡ Ok (units_in c.clearing.items)
  pub evictions : AreEvictions c.clearing.items
  pub prepared : IsPrepared l.books.state c.agent c.op
  pub agent : IsAgent (machine_in l) c.agent
  pub placed : IsPlaced l.books.history c.agent
  pub rows : length (agent_of (machine_in l) c.agent).own < most_rows

pub record AskedCallsAreReady {D : Type 0} (w : DiskWords D) : Type 0 where
  -- The agent's pending calls may be taken in.
  pub taken : (f : Fixed D) (recorded : Built) (l : Ledger D) (p : OpenPages) (calls : List Entry) (c : ReadyCall) (work : WorkingCopy) (past : List Text)
      → AreHeldWhole w f recorded l p → IsAsked w.tells f.opening l.books.history calls l.books.state c work past → MayTakeInto w l c.agent calls
  -- With them it has so many rows.
  pub rows : (f : Fixed D) (recorded : Built) (l : Ledger D) (p : OpenPages) (calls : List Entry) (c : ReadyCall) (work : WorkingCopy) (past : List Text)
      → AreHeldWhole w f recorded l p → IsAsked w.tells f.opening l.books.history calls l.books.state c work past
      → length (agent_of (machine_in l) c.agent).own + count_by makes_row calls ≡ length (agent_of (state_after f.opening (l.books.history ++ calls)) c.agent).own
  -- Then the call is ready.
  pub ready : (f : Fixed D) (recorded : Built) (l new : Ledger D) (p : OpenPages) (calls : List Entry) (c : ReadyCall) (work : WorkingCopy) (past : List Text)
      → AreHeldWhole w f recorded l p → IsAsked w.tells f.opening l.books.history calls l.books.state c work past
      → new.books.history ≡ l.books.history ++ calls → AreHeldWhole w f recorded new p → IsPrepared new.books.state c.agent c.op
      → IsReadyCall (state_after f.opening new.books.history) new c
