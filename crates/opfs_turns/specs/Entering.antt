-- What a turn without a call leaves. This project's own.
use Rattle.std.specs.Prelude.{◌≡◌, ◌≢◌, List, [], ◌++◌, All}
use Rattle.opfs_hist.specs.declared.entry.Entry.{Entry}
use Rattle.opfs_machine.specs.Histories.{state_after}
use Rattle.opfs_laws.specs.Leaving.{seen_by}
use Rattle.opfs_laws.specs.Histories.Unread.{IsTold}
use Rattle.opfs_turns.specs.Agents.{AgentSeen, state_of}
use Rattle.opfs_turns.specs.Calls.{before_call}

-- The agent has seen what others entered since its last turn, and its own calls are entered behind that. All that is its own was
-- as it knew, and nothing else has changed.
pub record HasEnteredPending {O : Type 0} (tells : Type 0) (before after : AgentSeen O) : Type 0 where
  pub others : List Entry
  pub apart : All (λ e. e.agent ≢ before.pass.agent) others
  pub legal : IsTold tells before.opening (before.pass.base ++ others)
  pub grown : after.pass.base ≡ (before.pass.base ++ others) ++ before.pending
  pub own : seen_by (state_after before.opening (before_call before others)) before.pass.agent ≡ seen_by (state_of before) before.pass.agent
  pub rest : after ≡ record before { pass = record before.pass { base = after.pass.base }; pending = [] }
