-- A call that the machine refuses, asked for after its agent's pending calls. This project's own.
use Rattle.std.specs.Prelude.{◌≡◌, List, ◌++◌, Err}
use Rattle.opfs_store.specs.Acts.Asking.{MayAct}
use Rattle.opfs_base.specs.Texts.{Text}
use Rattle.opfs_books.specs.Laws.Books.{Fixed}
use Rattle.opfs_hist.specs.declared.entry.Entry.{Entry}
use Rattle.opfs_hist.specs.declared.reply.Refusal.{Refusal}
use Rattle.opfs_machine.specs.Histories.{state_after}
use Rattle.opfs_machine.specs.Openings.{Opening}
use Rattle.opfs_machine.specs.Runs.{Call}
use Rattle.opfs_machine.specs.Steps.{judged}
use Rattle.opfs_outside.specs.declared.disk.Disk.{Ghosts as DiskWords}
use Rattle.opfs_records.specs.Replay.Built.{Built}
use Rattle.opfs_work.specs.Works.{WorkingCopy}
use Rattle.opfs_desk_steps.specs.Parts.Held.{AreHeldWhole}
use Rattle.opfs_desk_steps.specs.declared.parts.parts.DeskParts.{DeskParts}

pub record IsRefusedCall (tells : Type 0) (o : Opening) (h calls : List Entry) (c : Call) (r : Refusal) (work : WorkingCopy) (past : List Text) : Type 0 where
  pub may : MayAct tells o h calls c work past
  pub refused : judged (state_after o (h ++ calls)) c.agent c.op ≡ Err r

-- Over parts that are kept.
pub record MayActRefused {D : Type 0} (w : DiskWords D) (p : DeskParts D) (calls : List Entry) (c : Call) (r : Refusal) : Type 0 where
  pub fixed : Fixed D
  pub recorded : Built
  pub work : WorkingCopy
  pub past : List Text
  pub are : AreHeldWhole w fixed recorded p.ledger p.pages
  pub asked : IsRefusedCall w.tells fixed.opening p.ledger.books.history calls c r work past
