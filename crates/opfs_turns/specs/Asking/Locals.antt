-- What a local call of an agent answers. This project's own.
use Rattle.std.specs.Prelude.{◌≡◌, ℕ, Bool, true, false, Result, Ok, Err}
use Rattle.opfs_hist.specs.declared.op.Op.{Op}
use Rattle.opfs_hist.specs.declared.op.Op.TheVariants as op
use Rattle.opfs_hist.specs.declared.reply.Refusal.{Refusal}
use Rattle.opfs_hist.specs.declared.reply.Reply.{Reply}
use Rattle.opfs_hist.specs.declared.reply.Reply.TheVariants as reply
use Rattle.opfs_machine.specs.Steps.{is_refusal}
use Rattle.opfs_turns.specs.Agents.{AgentSeen}
use Rattle.opfs_turns.specs.Calls.{IsLocal, IsKept}
use Rattle.opfs_turns.specs.declared.asking.stop.Stop.{Stop}
use Rattle.opfs_turns.specs.declared.asking.stop.Stop.TheVariants as stop

-- A local call has its entry with the machine's answer, and makes so many rows.
pub record IsMade {O : Type 0} (tells : Type 0) (before after : AgentSeen O) (called : Op) (answered : Reply) (made : ℕ) : Type 0 where
  pub local : IsLocal tells before called answered made
  pub kept : IsKept before after called answered made

-- It was not refused, and this is made of its reply.
pub record HasLocalAnswer {O T : Type 0} (tells : Type 0) (before after : AgentSeen O) (called : Op) (made : ℕ) (Gives : T → Reply → Type 0) (x : T) : Type 0 where
  pub answered : Reply
  pub entered : IsMade tells before after called answered made
  pub accepted : is_refusal answered ≡ false
  pub gives : Gives x answered

-- What a local call leaves, by its answer: where there is no memory the agent is as it was.
abbrev pub Local : {O T : Type 0} → Type 0 → AgentSeen O → AgentSeen O → Op → ℕ → (T → Reply → Type 0) → Result T Stop → Type 0
Local tells before after called made Gives (Ok x) = HasLocalAnswer tells before after called made Gives x
Local tells before after called made Gives (Err (stop.No r)) = IsMade tells before after called (reply.No r) 0
Local tells before after called made Gives (Err stop.NoMemory) = after ≡ before

-- Why a local call gives nothing, and what it leaves.
abbrev pub Stopped : {O : Type 0} → Type 0 → AgentSeen O → AgentSeen O → Op → Stop → Type 0
Stopped tells before after called (stop.No r) = IsMade tells before after called (reply.No r) 0
Stopped tells before after called stop.NoMemory = after ≡ before

-- The words of calls on a stream, and on an access handle.
abbrev pub is_stream_op : Op → Bool
is_stream_op (op.Write n bytes position) = true
is_stream_op (op.Seek n position) = true
is_stream_op (op.Truncate n size) = true
is_stream_op (op.Close n) = true
is_stream_op (op.Abort n) = true
is_stream_op called = false

-- A closed access handle may be closed again.
abbrev pub is_closing : Op → Bool
is_closing (op.SyncClose n) = true
is_closing called = false

-- Those on a closed access handle that are refused.
abbrev pub is_handle_op : Op → Bool
is_handle_op (op.SyncRead n len at) = true
is_handle_op (op.SyncWrite n bytes at) = true
is_handle_op (op.SyncTruncate n size) = true
is_handle_op (op.SyncGetSize n) = true
is_handle_op (op.SyncFlush n) = true
is_handle_op called = false

-- It gives nothing for this refusal, or for want of memory.
abbrev pub IsWhy : Stop → Refusal → Type 0
IsWhy (stop.No why) r = why ≡ r
IsWhy stop.NoMemory r = Unit {0}
