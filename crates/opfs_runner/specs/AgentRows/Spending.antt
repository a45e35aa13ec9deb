-- What is left of a row that a call was to spend. This project's own.
use Rattle.std.specs.Prelude.{◌≡◌, ℕ, Result, Ok, Err}
use Rattle.opfs_hist.specs.declared.reply.Reply.{Reply}
use Rattle.opfs_hist.specs.declared.reply.Reply.TheVariants as reply
use Rattle.opfs_turns.specs.Agents.{AgentSeen}
use Rattle.opfs_turns.specs.declared.asking.stop.Stop.{Stop}
use Rattle.opfs_runner.specs.RunLaws.Kinds.{RowKind}
use Rattle.opfs_runner.specs.AgentRows.Tables.{kind_of, kind_left, HasAgentRow}
use Rattle.opfs_runner.specs.declared.agent_rows.spends.Left.{Left}

-- A call that is not refused is done.
abbrev pub IsDoneOr : Result Reply Stop → Type 0
IsDoneOr (Ok answered) = answered ≡ reply.Done
IsDoneOr (Err why) = Unit {0}

-- The row is closed where the call was done, and else as it was.
pub record IsLeftAs {O : Type 0} (tells : Type 0) (after : AgentSeen O) (n : ℕ) (kind : RowKind) (left : Left) : Type 0 where
  pub agent_row : HasAgentRow tells after n left.agent_row
  pub kind_is : kind_of left.agent_row ≡ kind_left kind left.answer
  pub done : IsDoneOr left.answer
