-- A call that stores nothing and clears no unit, step by step. This project's own.
use Rattle.std.specs.Prelude.{◌≡◌, ℕ, ◌≤◌, false, List, None}
use Rattle.opfs_store.specs.Acts.Acting.{brings_position, row_left}
use Rattle.opfs_store.specs.declared.acts.acted.Acted.{Acted}
use Rattle.opfs_store.specs.declared.acts.acted.Gift.{Gift}
use Rattle.opfs_base.specs.Texts.{Text}
use Rattle.opfs_books.specs.Laws.Books.{Fixed}
use Rattle.opfs_data.specs.Rows.{row_of, kept_count, OthersStay}
use Rattle.opfs_pages.specs.HistoryLaws.Hands.{row_in_hand}
use Rattle.opfs_desk_steps.specs.Parts.Asked.{IsAsked}
use Rattle.opfs_desk_steps.specs.Parts.Held.{AreHeldWhole}
use Rattle.opfs_desk_steps.specs.declared.parts.call.ReadyCall.{ReadyCall}
use Rattle.opfs_desk_steps.specs.declared.parts.parts.Ledger.{Ledger}
use Rattle.opfs_desk_steps.specs.declared.parts.parts.OpenPages.{OpenPages}
use Rattle.opfs_hist.specs.declared.entry.Entry.{Entry}
use Rattle.opfs_hist.specs.declared.reply.Reply.{Reply}
use Rattle.opfs_machine.specs.Histories.{evicted_by}
use Rattle.opfs_machine.specs.declared.own.Own.{Own}
use Rattle.opfs_machine.specs.declared.state.State.{State}
use Rattle.opfs_outside.specs.declared.disk.Disk.{Ghosts as DiskWords}
use Rattle.opfs_records.specs.Replay.Built.{Built}
use Rattle.opfs_work.specs.Works.{WorkingCopy}

-- What such a call begins with.
pub record BeginsCall {D : Type 0} (w : DiskWords D) (f : Fixed D) (recorded : Built) (l : Ledger D) (p : OpenPages) (calls : List Entry) (c : ReadyCall) (work : WorkingCopy) (past : List Text) : Type 0 where
  pub held : AreHeldWhole w f recorded l p
  pub asked : IsAsked w.tells f.opening l.books.history calls l.books.state c work past

-- The row that it has in hand, if it has one, is not open afterwards, and has no pages; the other rows have theirs.
pub record LeavesClosed (p q : OpenPages) (s : State Text Own) (c : ReadyCall) (row : ℕ) : Type 0 where
  pub plain : evicted_by c.op ≡ None
  pub in_hand : row_in_hand s c.agent c.op ≡ row
  pub left : (rows : ℕ) → row_left rows c.op ≡ 0
  pub near : brings_position c.op ≡ false
  pub others : OthersStay c.agent row p.swap q.swap
  pub gone : row_of c.agent row q.swap ≡ None
  pub base : q.base ≡ p.base
  pub space : q.space ≡ p.space
  pub kept : kept_count q.swap ≤ kept_count p.swap

-- What it answers, with what it gives and as many rows as its agent has made.
abbrev pub told_act : Reply → Gift → ℕ → Acted
told_act answered given rows = record { reply = answered; gift = given; rows = rows }
