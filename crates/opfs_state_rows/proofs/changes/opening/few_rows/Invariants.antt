use Rattle.std.proofs.Common.{ℕ, suc, ◌<◌, ◌≤◌, length}
use Rattle.opfs_machine.specs.Agents.{agent_of}
use Rattle.opfs_register.specs.Slots.{most_rows}
use Rattle.opfs_state_rows.proofs.changes.opening.few_rows.Given as goal

abbrev pub invariant-loop-at : goal.invariant-loop-at
invariant-loop-at l = (k : ℕ) → k < l.at → length (agent_of l.store.machine (suc k)).own ≤ most_rows
