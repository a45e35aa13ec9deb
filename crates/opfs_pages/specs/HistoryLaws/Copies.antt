-- The working copy that a call leaves of the row that it names or makes. This project's own.
use Rattle.std.specs.Prelude.{◌≡◌, ◌≢◌, ◌⊎◌, ℕ, ◌+◌, true, false, List, [], ◌∷◌, ◌++◌, length, Some}
use Rattle.opfs_base.specs.Texts.{Text}
use Rattle.opfs_hist.specs.Sums.{asks_for_row}
use Rattle.opfs_hist.specs.declared.entry.Entry.{Entry}
use Rattle.opfs_hist.specs.declared.op.Op.{Op}
use Rattle.opfs_machine.specs.declared.own.HandleRow.{HandleRow}
use Rattle.opfs_machine.specs.declared.own.StreamRow.{StreamRow}
use Rattle.opfs_machine.specs.declared.own.Own.{Own}
use Rattle.opfs_machine.specs.declared.state.State.{State}
use Rattle.opfs_machine.specs.Agents.{agent_of, own_of}
use Rattle.opfs_machine.specs.Histories.{state_after}
use Rattle.opfs_machine.specs.Openings.{Opening}
use Rattle.opfs_machine.specs.Replies.{row_named, bytes_at}
use Rattle.opfs_machine.specs.Steps.{is_refusal}
use Rattle.opfs_pages.specs.Copies.{IsCopy}
use Rattle.opfs_work.specs.Works.{WorkingCopy}

-- A call names the own row of a number, or makes it.
abbrev pub NamesRow : State Text Own → ℕ → ℕ → Op → Type 0
NamesRow s k n op = (row_named op ≡ n) ⊎ ((asks_for_row op ≡ true) × (length (agent_of s k).own + 1 ≡ n))

-- A working copy has a stream's size, offset and reserve, and where the disk tells its buffer.
pub record IsStreamCopy (tells : Type 0) (w : StreamRow) (work : WorkingCopy) : Type 0 where
  pub size : work.length ≡ length w.buffer
  pub same : tells → IsCopy w.buffer work
  pub position : work.position ≡ w.offset
  pub reserve : work.reserve ≡ w.reserve

-- The same of an access handle, whose bytes are the present ones of its file.
pub record IsHandleCopy (tells : Type 0) (s : State Text Own) (h : HandleRow) (work : WorkingCopy) : Type 0 where
  pub size : work.length ≡ length (bytes_at s h.file)
  pub same : tells → IsCopy (bytes_at s h.file) work
  pub position : work.position ≡ h.cursor
  pub reserve : work.reserve ≡ h.reserve

-- A call that was made under the turn and not refused, and the row that it names or makes.
pub record HasLeftRow (o : Opening) (h : List Entry) (e : Entry) (n : ℕ) (r : Own) : Type 0 where
  pub turn : e.turn ≡ true
  pub done : is_refusal e.reply ≡ false
  pub some : n ≢ 0
  pub named : NamesRow (state_after o h) e.agent n e.op
  pub there : own_of (agent_of (state_after o (h ++ e ∷ [])) e.agent) n ≡ Some r
