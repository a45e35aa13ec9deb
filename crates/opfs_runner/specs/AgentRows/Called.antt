-- How a call of an agent's script was made. This project's own.
use Rattle.std.specs.Prelude.{◌≡◌, ◌⊎◌, ℕ, Result, Ok, Err}
use Rattle.opfs_base.specs.Texts.{Text}
use Rattle.opfs_hist.specs.declared.op.Op.{Op}
use Rattle.opfs_hist.specs.declared.op.Op.TheVariants.{Await}
use Rattle.opfs_hist.specs.declared.reply.Reply.{Reply}
use Rattle.opfs_hist.specs.declared.reply.Reply.TheVariants as reply
use Rattle.opfs_store.specs.declared.acts.acted.Gift.{Gift}
use Rattle.opfs_turns.specs.Agents.{AgentSeen}
use Rattle.opfs_turns.specs.Calls.{IsEntered, HasLooked}
use Rattle.opfs_turns.specs.Waiting.{HasWaited, HasAwaited}
use Rattle.opfs_turns.specs.Asking.Locals.{IsMade}
use Rattle.opfs_turns.specs.declared.asking.stop.Stop.{Stop}
use Rattle.opfs_turns.specs.declared.asking.stop.Stop.TheVariants as stop

-- A call has its entry, with this answer: under the turn, or kept until the next one, or as an await that has waited before or
-- not.
abbrev pub IsCalled : {O : Type 0} → Type 0 → AgentSeen O → AgentSeen O → Op → Reply → Type 0
IsCalled tells before after op answered =
    ((given : Gift) × IsEntered tells before after op answered given)
    ⊎ (((made : ℕ) × IsMade tells before after op answered made)
    ⊎ ((tag : Text) × (op ≡ Await tag) × HasAwaited tells before after tag answered))

-- A call has no entry: the agent has looked alone, or is as it was, or has begun to wait for the tag that it awaits.
abbrev pub IsStill : {O : Type 0} → Type 0 → AgentSeen O → AgentSeen O → Op → Type 0
IsStill tells before after op = HasLooked before after ⊎ ((after ≡ before) ⊎ ((tag : Text) × (op ≡ Await tag) × HasWaited tells before after tag))

-- What a call leaves, by its answer: only where there was no memory it has no entry.
abbrev pub Calls : {O : Type 0} → Type 0 → AgentSeen O → AgentSeen O → Op → Result Reply Stop → Type 0
Calls tells before after op (Ok answered) = IsCalled tells before after op answered
Calls tells before after op (Err (stop.No r)) = IsCalled tells before after op (reply.No r)
Calls tells before after op (Err stop.NoMemory) = IsStill tells before after op
