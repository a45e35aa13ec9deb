-- Calls that only tell: they store nothing, make no row and no mode, and use no pages of a row. This project's own.
use Rattle.std.specs.Prelude.{◌≡◌, ℕ, ◌||◌, ◌++◌, Bool, true, false, List}
use Rattle.opfs_base.specs.Texts.{Text}
use Rattle.opfs_base.specs.Units.{unit_of}
use Rattle.opfs_books.specs.Laws.Books.{Fixed}
use Rattle.opfs_state_rows.specs.Changes.Asking.{growth_of}
use Rattle.opfs_hist.specs.declared.entry.Entry.{Entry}
use Rattle.opfs_hist.specs.declared.op.Op.{Op}
use Rattle.opfs_hist.specs.declared.op.Op.TheVariants as op
use Rattle.opfs_hist.specs.declared.reply.Reply.{Reply}
use Rattle.opfs_machine.specs.Agents.{agent_of}
use Rattle.opfs_machine.specs.Histories.{state_after}
use Rattle.opfs_machine.specs.Openings.{Opening}
use Rattle.opfs_machine.specs.Replies.{origin_in}
use Rattle.opfs_machine.specs.Steps.{is_refusal}
use Rattle.opfs_machine.specs.Sums.{is_persistent}
use Rattle.opfs_outside.specs.declared.disk.Disk.{Ghosts as DiskWords}
use Rattle.opfs_records.specs.Replay.Built.{Built}
use Rattle.opfs_state_rows.specs.Standing.Seen.{Machine}
use Rattle.opfs_state.specs.Applied.{StateSeen}
use Rattle.opfs_work.specs.Works.{WorkingCopy}
use Rattle.opfs_desk_steps.specs.Parts.Asked.{IsAsked}
use Rattle.opfs_desk_steps.specs.Parts.Held.{AreHeldWhole}
use Rattle.opfs_desk_steps.specs.declared.parts.call.ReadyCall.{ReadyCall}
use Rattle.opfs_desk_steps.specs.declared.parts.parts.DeskParts.{DeskParts}
use Rattle.opfs_desk_steps.specs.Answering.{IsReply}

-- Their words.
abbrev pub is_telling : Op → Bool
is_telling (op.GetDirectory bucket) = true
is_telling (op.GetDirectoryHandle dir name create) = true
is_telling (op.GetFileHandle dir name create) = true
is_telling (op.Next n dir) = true
is_telling (op.Persist bucket) = true
is_telling (op.Persisted bucket) = true
is_telling op.Estimate = true
is_telling (op.Post tag) = true
is_telling (op.Await tag) = true
is_telling (op.Wait tag) = true
is_telling op.End = true
is_telling o = false

-- What a call would make is there: it adds nothing to the charge.
pub record TellsOnly (m : Machine) (k : ℕ) (o : Op) : Type 0 where
  pub word : is_telling o ≡ true
  pub nothing : growth_of m k o ≡ 0

-- The words that are answered alone by that they are done.
abbrev pub is_done : Op → Bool
is_done (op.GetDirectory bucket) = true
is_done (op.GetDirectoryHandle dir name create) = true
is_done (op.GetFileHandle dir name create) = true
is_done (op.Post tag) = true
is_done (op.Await tag) = true
is_done (op.Wait tag) = true
is_done op.End = true
is_done o = false

-- Those that ask for a bucket's mode.
abbrev pub is_of_mode : Op → Bool
is_of_mode (op.Persist bucket) = true
is_of_mode (op.Persisted bucket) = true
is_of_mode o = false

-- Whether a persist leaves its bucket persistent, or a persisted finds it so.
abbrev pub mode_answer : Machine → ℕ → Op → Bool
mode_answer m k (op.Persist bucket) = (agent_of m k).grant || is_persistent m (unit_of (origin_in (agent_of m k).key) bucket)
mode_answer m k (op.Persisted bucket) = is_persistent m (unit_of (origin_in (agent_of m k).key) bucket)
mode_answer m k o = false

-- Such a call is asked for, and this is what it answers.
pub record IsTelling (tells : Type 0) (o : Opening) (h calls : List Entry) (s : StateSeen) (c : ReadyCall) (work : WorkingCopy) (past : List Text) (answered : Reply) : Type 0 where
  pub asked : IsAsked tells o h calls s c work past
  pub only : TellsOnly s.store.machine c.agent c.op
  pub reply : IsReply tells (state_after o (h ++ calls)) c answered
  pub done : is_refusal answered ≡ false

-- Over parts that are kept.
pub record MayTell {D : Type 0} (w : DiskWords D) (p : DeskParts D) (c : ReadyCall) (calls : List Entry) (answered : Reply) : Type 0 where
  pub fixed : Fixed D
  pub recorded : Built
  pub work : WorkingCopy
  pub past : List Text
  pub are : AreHeldWhole w fixed recorded p.ledger p.pages
  pub telling : IsTelling w.tells fixed.opening p.ledger.books.history calls p.ledger.books.state c work past answered
