-- What one step of a script leaves. This project's own.
use Rattle.std.specs.Prelude.{◌≡◌, ◌⊎◌, ℕ, ◌+◌, ◌≤◌, Bool, true, false, List, [], ◌∷◌, ◌++◌, Option, Some, None, Result, Ok, Err}
use Rattle.opfs_base.specs.Texts.{Text}
use Rattle.opfs_hist.specs.declared.entry.Entry.{Entry}
use Rattle.opfs_hist.specs.declared.op.Op.{Op}
use Rattle.opfs_hist.specs.declared.op.Op.TheVariants.{Await, Wait}
use Rattle.opfs_hist.specs.declared.reply.Reply.{Reply}
use Rattle.opfs_hist.specs.declared.reply.Reply.TheVariants as reply
use Rattle.opfs_turns.specs.declared.asking.stop.Stop.{Stop}
use Rattle.opfs_turns.specs.declared.asking.stop.Stop.TheVariants as stop
use Rattle.opfs_turns.specs.Agents.{AgentSeen, IsAgent, known}
use Rattle.opfs_turns.specs.Entering.{HasEnteredPending}
use Rattle.opfs_script_run.specs.declared.runs.hand.Hand.{Hand}
use Rattle.opfs_script_run.specs.Runs.Running.{entries_of, op_of, hand_then}
use Rattle.opfs_script.specs.declared.step.Step.{Step}
use Rattle.opfs_runner.specs.RunLaws.Kinds.{kinds_after}
use Rattle.opfs_runner.specs.RunLaws.Leaving.{kinds_stepped}
use Rattle.opfs_runner.specs.AgentRows.Tables.{kinds_of, HasTable}
use Rattle.opfs_runner.specs.declared.agent_rows.agent_row.AgentRow.{AgentRow}

-- All that an agent has entered or will enter.
abbrev pub own_entries : {O : Type 0} → AgentSeen O → List Entry
own_entries a = entries_of a.pass.agent (known a)

-- An await has begun to wait, with the number of its own entry.
pub record IsWaitOf (n : ℕ) (o : Op) (before after : List Entry) : Type 0 where
  pub tag : Text
  pub await_is : o ≡ Await tag
  pub wait : Entry
  pub wait_is : wait.op ≡ Wait tag
  pub number : wait.number ≡ n
  pub grown : after ≡ before ++ wait ∷ []

-- Before the entry of a call nothing is entered, but a wait where it is an await.
abbrev pub IsWaitedFor : ℕ → Op → List Entry → List Entry → Type 0
IsWaitedFor n o before after = (after ≡ before) ⊎ IsWaitOf n o before after

-- An agent goes on: nothing but its entries changes, and few are more.
pub record GoesOn {O : Type 0} (a b : AgentSeen O) : Type 0 where
  pub same : b.pass ≡ record a.pass { base = b.pass.base }
  pub key : b.key ≡ a.key
  pub few : b.entries ≤ a.entries + 2

-- A call has its entry, the last, with its number, and at most one wait before it.
pub record IsDone {O : Type 0} (a b : AgentSeen O) (o : Op) (answered : Reply) : Type 0 where
  pub goes : GoesOn a b
  pub before : List Entry
  pub waited : IsWaitedFor a.number o (own_entries a) before
  pub entry : Entry
  pub asked : entry.op ≡ o
  pub told : entry.reply ≡ answered
  pub numbered : entry.number ≡ a.number
  pub grown : own_entries b ≡ before ++ entry ∷ []
  pub next : b.number ≡ a.number + 1

-- A call has no entry, and at most one wait stands for it.
pub record IsNotDone {O : Type 0} (a b : AgentSeen O) (o : Op) : Type 0 where
  pub goes : GoesOn a b
  pub waited : IsWaitedFor a.number o (own_entries a) (own_entries b)
  pub next : b.number ≡ a.number

-- The reply of a call, a refusal too; none for want of memory.
abbrev pub reply_of : Result Reply Stop → Option Reply
reply_of (Ok answered) = Some answered
reply_of (Err (stop.No r)) = Some (reply.No r)
reply_of (Err stop.NoMemory) = None

-- The hand has taken note of a call.
pub record IsTaken (h then_h : Hand) (s : Step) (o : Op) (answer : Result Reply Stop) : Type 0 where
  pub answered : Reply
  pub told : reply_of answer ≡ Some answered
  pub noted : then_h ≡ hand_then h s o answered

-- The call of a step was made; or it was not.
pub record IsNoted {O : Type 0} (tells : Type 0) (a b : AgentSeen O) (old new : List AgentRow) (h : Hand) (s : Step) : Type 0 where
  pub answered : Reply
  pub done : IsDone a b (op_of h s) answered
  pub table : HasTable tells b new
  pub kinds : kinds_of new ≡ kinds_after (kinds_of old) (op_of h s) answered

pub record IsLeft {O : Type 0} (tells : Type 0) (a b : AgentSeen O) (old new : List AgentRow) (h : Hand) (s : Step) : Type 0 where
  pub done : IsNotDone a b (op_of h s)
  pub table : HasTable tells b new
  pub kinds : kinds_of new ≡ kinds_of old

-- It was made, and the hand has taken note; or it was made alone; or it was not.
abbrev pub IsTried : {O : Type 0} → Type 0 → AgentSeen O → AgentSeen O → List AgentRow → List AgentRow → Hand → Hand → Step → Bool → Type 0
IsTried tells a b old new h then_h s true = (n : IsNoted tells a b old new h s) × (then_h ≡ hand_then h s (op_of h s) n.answered)
IsTried tells a b old new h then_h s false = IsNoted tells a b old new h s ⊎ IsLeft tells a b old new h s

-- The whole step was made: the hand has taken note, and the snapshot that the step's variable no longer names is gone.
pub record IsPassed {O : Type 0} (tells : Type 0) (a b : AgentSeen O) (old new : List AgentRow) (h then_h : Hand) (s : Step) : Type 0 where
  pub answered : Reply
  pub done : IsDone a b (op_of h s) answered
  pub noted : then_h ≡ hand_then h s (op_of h s) answered
  pub table : HasTable tells b new
  pub kinds : kinds_of new ≡ kinds_stepped h (kinds_of old) s answered

-- It was made, or the run stops there.
abbrev pub IsStepped : {O : Type 0} → Type 0 → AgentSeen O → AgentSeen O → List AgentRow → List AgentRow → Hand → Hand → Step → Bool → Type 0
IsStepped tells a b old new h then_h s true = IsPassed tells a b old new h then_h s
IsStepped tells a b old new h then_h s false = IsNoted tells a b old new h s ⊎ IsLeft tells a b old new h s

-- Its pending calls were entered, or nothing was done.
abbrev pub MayHaveEntered : {O : Type 0} → Type 0 → AgentSeen O → AgentSeen O → Type 0
MayHaveEntered tells a b = (b ≡ a) ⊎ (HasEnteredPending tells a b × IsAgent tells a × IsAgent tells b)
