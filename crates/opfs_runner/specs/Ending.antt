-- How the rows of an agent end with its script. This project's own.
use Rattle.std.specs.Prelude.{◌≡◌, ℕ, Bool, List, ◌++◌}
use Rattle.opfs_hist.specs.declared.entry.Entry.{Entry}
use Rattle.opfs_hist.specs.declared.op.Op.TheVariants as op
use Rattle.opfs_turns.specs.Agents.{AgentSeen}
use Rattle.opfs_script_run.specs.declared.runs.hand.Open.{Open}
use Rattle.opfs_script_run.specs.Runs.Running.{IsEnd}
use Rattle.opfs_script.specs.Scripts.{Asked}
use Rattle.opfs_agent.specs.StreamCalls.Ends as streams
use Rattle.opfs_agent.specs.HandleCalls.Ends as handles
use Rattle.opfs_runner.specs.declared.agent_rows.agent_row.AgentRow.{AgentRow}
use Rattle.opfs_runner.specs.declared.agent_rows.agent_row.AgentRow.TheVariants as agent_row
use Rattle.opfs_runner.specs.Runs.{HasEntries}

-- With the end of these open rows, from a number on, the entries so far are those of a script.
abbrev pub Closes : Asked → Bool → List Entry → ℕ → List Open → Type 0
Closes asked whole so_far n rows = (rest : List Entry) → IsEnd n rows rest → HasEntries asked whole (so_far ++ rest)

-- A row has ended: an open stream was aborted, an open access handle discarded; any other is left.
abbrev pub IsEnded : {O : Type 0} → Type 0 → AgentSeen O → AgentSeen O → AgentRow → Type 0
IsEnded tells a b (agent_row.Stream w) = (closed : ℕ) × streams.IsClosed tells a b (op.Abort w.row) w.row closed
IsEnded tells a b (agent_row.Handle h) = (closed : ℕ) × handles.IsClosed tells a b (op.Discard h.row) h.row closed
IsEnded tells a b s = b ≡ a
