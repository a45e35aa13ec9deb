-- What a call leaves of an access handle that stays open, and of its agent. This project's own.
use Rattle.std.specs.Prelude.{◌≡◌}
use Rattle.opfs_base.specs.Places.{place_of}
use Rattle.opfs_base.specs.Texts.{Text}
use Rattle.opfs_turns.specs.Asking.Rows.{HandleSeen, HasHandle}
use Rattle.opfs_turns.specs.Agents.{AgentSeen}
use Rattle.opfs_sync_files.specs.Doubts.{DoubtsStore}
use Rattle.opfs_sync_files.specs.Entries.{GoesOn}
use Rattle.opfs_sync_files.specs.Resting.{LeavesRest}

-- Which bytes a disk fault may leave in doubt: none, or just these.
abbrev pub NoBytes : Text → Type 0
NoBytes bytes = ⊥

abbrev pub TheBytes : Text → Text → Type 0
TheBytes text bytes = bytes ≡ text

-- An access handle is still open after a call, on the same file, and its agent has at most one entry more. The agent's other own
-- rows are as they were. A disk fault in between may leave such bytes of the file in doubt.
pub record IsStill {O : Type 0} (tells : Type 0) (before after : AgentSeen O) (old new : HandleSeen) (May : Text → Type 0) : Type 0 where
  pub has : HasHandle tells after new
  pub row : new.row ≡ old.row
  pub file : new.file ≡ old.file
  pub mode_is : new.mode ≡ old.mode
  pub goes : GoesOn before after 1
  pub others : LeavesRest tells before after old.row
  pub doubts : tells → DoubtsStore before.opening before.pass.base after.pass.base (place_of old.file) May
