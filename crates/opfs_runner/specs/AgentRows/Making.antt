-- The row that a call makes. This project's own.
use Rattle.std.specs.Prelude.{◌≡◌, ◌+◌, List, [], ◌∷◌, ◌++◌, Result, Ok, Err}
use Rattle.opfs_hist.specs.declared.op.Op.{Op}
use Rattle.opfs_hist.specs.declared.reply.Reply.{Reply}
use Rattle.opfs_turns.specs.Agents.{AgentSeen}
use Rattle.opfs_turns.specs.declared.asking.stop.Stop.{Stop}
use Rattle.opfs_runner.specs.RunLaws.Kinds.{RowKind, kinds_after}
use Rattle.opfs_runner.specs.AgentRows.Tables.{kind_of, HasAgentRow}
use Rattle.opfs_runner.specs.declared.agent_rows.makes.Made.{Made}

-- The answer with which a row came.
abbrev pub reply_in : Result Made Stop → Result Reply Stop
reply_in (Ok made) = Ok made.reply
reply_in (Err why) = Err why

-- A row was made: the agent has one more, the last, as this agent_row says.
pub record IsMadeBy {O : Type 0} (tells : Type 0) (before after : AgentSeen O) (op : Op) (made : Made) : Type 0 where
  pub more : after.rows ≡ before.rows + 1
  pub agent_row : HasAgentRow tells after after.rows made.agent_row
  pub kinds : (kinds : List RowKind) → kinds_after kinds op made.reply ≡ kinds ++ kind_of made.agent_row ∷ []
