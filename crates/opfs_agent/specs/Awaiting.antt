-- What an await of an agent answers. This project's own.
use Rattle.std.specs.Prelude.{◌≡◌, Result, Ok, Err}
use Rattle.opfs_base.specs.Texts.{Text}
use Rattle.opfs_hist.specs.declared.reply.Refusal.TheVariants as refusal
use Rattle.opfs_hist.specs.declared.reply.Reply.TheVariants as reply
use Rattle.opfs_turns.specs.declared.asking.stop.Stop.{Stop}
use Rattle.opfs_turns.specs.declared.asking.stop.Stop.TheVariants as stop
use Rattle.opfs_turns.specs.Agents.{AgentSeen}
use Rattle.opfs_turns.specs.Waiting.{HasWaited, HasAwaited}

-- Ok where the tag was posted, Stuck where nobody is left who could post it: both have their entry. Where there was no memory
-- the agent has looked alone, or waits.
abbrev pub Awaits : {O T : Type 0} → Type 0 → AgentSeen O → AgentSeen O → Text → Result T Stop → Type 0
Awaits tells before after tag (Ok x) = HasAwaited tells before after tag reply.Done
Awaits tells before after tag (Err (stop.No r)) = (r ≡ refusal.Stuck) × HasAwaited tells before after tag (reply.No refusal.Stuck)
Awaits tells before after tag (Err stop.NoMemory) = HasWaited tells before after tag
