-- How an access handle ends. This project's own.
use Rattle.std.specs.Prelude.{◌≡◌, ℕ}
use Rattle.opfs_hist.specs.declared.op.Op.{Op}
use Rattle.opfs_hist.specs.declared.reply.Reply.TheVariants as reply
use Rattle.opfs_store.specs.declared.acts.acted.Gift.{Gift}
use Rattle.opfs_store.specs.Acts.Acting.{IsSameCopy}
use Rattle.opfs_turns.specs.Agents.{AgentSeen}
use Rattle.opfs_turns.specs.Calls.{IsEntered, HasLooked}
use Rattle.opfs_turns.specs.Asking.Answers.{IsRefused}
use Rattle.opfs_turns.specs.Asking.Rows.{HandleSeen, HasHandle, HasClosedHandle}
use Rattle.opfs_turns.specs.declared.asking.stop.Stop.{Stop}
use Rattle.opfs_turns.specs.declared.asking.stop.Stop.TheVariants as stop

-- A call was entered and done, and the row that it names is closed.
pub record IsClosed {O : Type 0} (tells : Type 0) (before after : AgentSeen O) (op : Op) (row closed : ℕ) : Type 0 where
  pub given : Gift
  pub entered : IsEntered tells before after op reply.Done given
  pub same : closed ≡ row
  pub has : HasClosedHandle after closed

-- Why a call that would spend an access handle did not.
abbrev pub WasStopped : {O : Type 0} → Type 0 → AgentSeen O → AgentSeen O → Op → Stop → Type 0
WasStopped tells before after op (stop.No r) = IsRefused tells before after op r
WasStopped tells before after op stop.NoMemory = HasLooked before after

-- The handle comes back open, as it was, the room of its working copy aside.
pub record GivesBack {O : Type 0} (tells : Type 0) (before after : AgentSeen O) (op : Op) (handle back : HandleSeen) (why : Stop) : Type 0 where
  pub stopped : WasStopped tells before after op why
  pub row : back.row ≡ handle.row
  pub file : back.file ≡ handle.file
  pub mode : back.mode ≡ handle.mode
  pub copy : IsSameCopy handle.work back.work
  pub open_still : HasHandle tells after back
