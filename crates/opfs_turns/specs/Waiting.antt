-- An await, turn by turn. This project's own.
use Rattle.std.specs.Prelude.{◌≡◌, ◌≢◌, ◌⊎◌, ◌+◌, ◌≤◌, Bool, true, false, List, [], ◌++◌, All, ℕ, Option, Some, None, Result, Ok, Err}
use Rattle.opfs_base.specs.Texts.{Text}
use Rattle.opfs_hist.specs.declared.entry.Entry.{Entry}
use Rattle.opfs_hist.specs.declared.op.Op.{Op}
use Rattle.opfs_hist.specs.declared.op.Op.TheVariants.{Await, Wait}
use Rattle.opfs_hist.specs.declared.reply.Refusal.TheVariants as refusal
use Rattle.opfs_hist.specs.declared.reply.Reply.{Reply}
use Rattle.opfs_hist.specs.declared.reply.Reply.TheVariants as reply
use Rattle.opfs_machine.specs.Agents.{waits_for}
use Rattle.opfs_machine.specs.Histories.{state_after}
use Rattle.opfs_laws.specs.Leaving.{seen_by}
use Rattle.opfs_laws.specs.Histories.Opened.{added}
use Rattle.opfs_laws.specs.Histories.Unread.{IsTold}
use Rattle.opfs_store.specs.declared.acts.acted.AwaitState.{AwaitState}
use Rattle.opfs_store.specs.declared.acts.acted.AwaitState.TheVariants as state
use Rattle.opfs_store.specs.Acts.Acting.{told_entry, IsCallFor, awaited}
use Rattle.opfs_turns.specs.Agents.{AgentSeen, state_of}
use Rattle.opfs_turns.specs.Calls.{call_of, before_call, HasLooked}
use Rattle.opfs_turns.specs.declared.notes.Notes.{Notes}
use Rattle.opfs_turns.specs.declared.waiting.AwaitTurn.{AwaitTurn}
use Rattle.opfs_turns.specs.declared.waiting.AwaitTurn.TheVariants as turn
use Rattle.opfs_turns.specs.declared.waiting.Plan.{Plan}
use Rattle.opfs_turns.specs.declared.waiting.Plan.TheVariants as plan

-- A call was entered: the agent has seen what others entered since its last turn, and its own calls, the evictions and this
-- entry. All that is its own was as it knew.
pub record IsTurned {O : Type 0} (tells : Type 0) (before after : AgentSeen O) (called : Op) (answered : Reply) : Type 0 where
  pub others : List Entry
  pub gone : List Text
  pub apart : All (λ e. e.agent ≢ before.pass.agent) others
  pub legal : IsTold tells before.opening (before.pass.base ++ others)
  pub grown : after.pass.base ≡ (before.pass.base ++ others) ++ added before.pending gone (told_entry (call_of before called) answered)
  pub call : IsCallFor tells (state_after before.opening (before_call before others)) gone (told_entry (call_of before called) answered)
  pub own : seen_by (state_after before.opening (before_call before others)) before.pass.agent ≡ seen_by (state_of before) before.pass.agent

-- After these entries a tag is not due for an agent: it was not posted, and somebody is left who could post it.
abbrev pub IsNotDue : {O : Type 0} → AgentSeen O → List Entry → Text → Type 0
IsNotDue a es tag = awaited (state_after a.opening es) a.pass.agent tag ≡ state.Neither

-- The agent begins to wait for a tag, for which it did not wait, and which was not due. Its next entry has the same number.
pub record IsWaiting {O : Type 0} (tells : Type 0) (before after : AgentSeen O) (tag : Text) : Type 0 where
  pub turned : IsTurned tells before after (Wait tag) reply.Done
  pub first : waits_for before.waiting tag ≡ false
  pub not_due : IsNotDue before (before.pass.base ++ turned.others) tag
  pub rest : after ≡ record before { pass = record before.pass { base = after.pass.base }; pending = []; entries = before.entries + 1; waiting = Some tag }

-- An await is answered: the agent waits no more.
pub record IsAwaited {O : Type 0} (tells : Type 0) (before after : AgentSeen O) (tag : Text) (answered : Reply) : Type 0 where
  pub turned : IsTurned tells before after (Await tag) answered
  pub rest : after ≡ record before { pass = record before.pass { base = after.pass.base }; pending = []; number = before.number + 1; entries = before.entries + 1; waiting = None }

-- It has not been answered yet: the agent has looked, and has begun to wait once at most.
pub record HasBegun {O : Type 0} (tells : Type 0) (before after : AgentSeen O) (tag : Text) : Type 0 where
  pub first : AgentSeen O
  pub then_on : AgentSeen O
  pub looked : HasLooked before first
  pub wait : IsWaiting tells first then_on tag
  pub since : HasLooked then_on after

abbrev pub HasWaited : {O : Type 0} → Type 0 → AgentSeen O → AgentSeen O → Text → Type 0
HasWaited tells before after tag = HasLooked before after ⊎ HasBegun tells before after tag

-- An await that was answered so, after it has waited or not.
pub record HasAwaited {O : Type 0} (tells : Type 0) (before after : AgentSeen O) (tag : Text) (answered : Reply) : Type 0 where
  pub mid : AgentSeen O
  pub waited : HasWaited tells before mid tag
  pub awaited : IsAwaited tells mid after tag answered

-- Ok where the tag was posted, Stuck where nobody is left who could post it.
abbrev pub await_reply : Bool → Reply
await_reply true = reply.Done
await_reply false = reply.No refusal.Stuck

-- An agent has room for a row, for a wait and for its await.
pub record HasWaitRoom {O : Type 0} (a : AgentSeen O) : Type 0 where
  pub rows : a.rows ≤ 60000000
  pub entries : a.entries ≤ 60000001

-- What an await does in its turn, by how its tag stands and whether the agent waits for it already.
abbrev pub planned : AwaitState → Bool → Plan
planned state.Posted begun = plan.Answer true
planned state.Stuck begun = plan.Answer false
planned state.Neither true = plan.Look
planned state.Neither false = plan.Begin

-- What it enters by that: its own call, or that it waits.
abbrev pub op_by : Plan → Text → Option Op
op_by (plan.Answer posted) tag = Some (Await tag)
op_by plan.Begin tag = Some (Wait tag)
op_by plan.Look tag = None

-- What the agent notes of what was entered: an answer has a number of its own and ends the wait.
abbrev pub noted_by : Plan → Notes → ℕ → Text → Notes
noted_by (plan.Answer posted) notes rows tag = record notes { number = notes.number + 1; entries = notes.entries + 1; rows = rows; waiting = None }
noted_by _ notes rows tag = record notes { entries = notes.entries + 1; rows = rows; waiting = Some tag }

-- How the await stands then.
abbrev pub turn_by : Plan → ℕ → AwaitTurn
turn_by (plan.Answer posted) heard = turn.Answered posted
turn_by _ heard = turn.Waits heard

-- The agent goes on waiting for a tag: it looked, and the tag was not due.
pub record IsLooking {O : Type 0} (before after : AgentSeen O) (tag : Text) : Type 0 where
  pub looked : HasLooked before after
  pub begun : waits_for after.waiting tag ≡ true
  pub not_due : IsNotDue after after.pass.base tag

-- What a turn of an await leaves.
abbrev pub IsAwaitTurn : {O E : Type 0} → Type 0 → AgentSeen O → AgentSeen O → Text → Result AwaitTurn E → Type 0
IsAwaitTurn tells before after tag (Ok (turn.Answered posted)) = IsAwaited tells before after tag (await_reply posted)
IsAwaitTurn tells before after tag (Ok (turn.Waits heard)) = IsLooking before after tag ⊎ IsWaiting tells before after tag
IsAwaitTurn tells before after tag (Err e) = HasLooked before after
