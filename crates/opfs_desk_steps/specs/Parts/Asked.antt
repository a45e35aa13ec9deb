-- What is asked of a call under the turn, once it is judged and all stands ready. This project's own.
use Rattle.std.specs.Prelude.{◌≡◌, List, ◌++◌, Ok}
use Rattle.std.specs.List.{AllByRecursion}
use Rattle.opfs_store.specs.Acts.Asking.{MayAct}
use Rattle.opfs_base.specs.Texts.{Text}
use Rattle.opfs_books.specs.Laws.Books.{Fixed}
use Rattle.opfs_hist.specs.declared.entry.Entry.{Entry}
use Rattle.opfs_machine.specs.Histories.{state_after}
use Rattle.opfs_machine.specs.Openings.{Opening}
use Rattle.opfs_machine.specs.Replies.{sizes_of}
use Rattle.opfs_machine.specs.Runs.{eviction}
use Rattle.opfs_machine.specs.Steps.{judged}
use Rattle.opfs_outside.specs.declared.disk.Disk.{Ghosts as DiskWords}
use Rattle.opfs_records.specs.Replay.Built.{Built}
use Rattle.opfs_state.specs.Applied.{StateSeen, IsPrepared}
use Rattle.opfs_work.specs.Works.{WorkingCopy}
use Rattle.opfs_desk_steps.specs.Parts.Held.{AreHeldWhole}
use Rattle.opfs_desk_steps.specs.Parts.Seen.{call_in, units_in}
use Rattle.opfs_desk_steps.specs.declared.parts.call.Eviction.{Eviction}
use Rattle.opfs_desk_steps.specs.declared.parts.call.ReadyCall.{ReadyCall}
use Rattle.opfs_desk_steps.specs.declared.parts.parts.DeskParts.{DeskParts}

-- The entries of the units that are cleared are those of their evictions.
abbrev pub AreEvictions : List Eviction → Type 0
AreEvictions clearing = AllByRecursion (λ (x : Eviction). x.gone.entry ≡ eviction x.unit) clearing

-- A call may be made after a history and its agent's pending calls. It is not refused, these units are cleared for it, and all
-- of the shared state stands ready.
pub record IsAsked (tells : Type 0) (o : Opening) (h calls : List Entry) (s : StateSeen) (c : ReadyCall) (work : WorkingCopy) (past : List Text) : Type 0 where
  pub may : MayAct tells o h calls (call_in c) work past
  pub sizes : c.sizes ≡ sizes_of (state_after o (h ++ calls)) c.agent c.op
  pub judged : judged (state_after o (h ++ calls)) c.agent c.op ≡ Ok (units_in c.clearing.items)
  pub prepared : IsPrepared s c.agent c.op
  pub evictions : AreEvictions c.clearing.items

-- Over parts that are kept.
pub record MayGo {D : Type 0} (w : DiskWords D) (p : DeskParts D) (c : ReadyCall) (calls : List Entry) (work : WorkingCopy) (past : List Text) : Type 0 where
  pub fixed : Fixed D
  pub recorded : Built
  pub are : AreHeldWhole w fixed recorded p.ledger p.pages
  pub asked : IsAsked w.tells fixed.opening p.ledger.books.history calls p.ledger.books.state c work past
