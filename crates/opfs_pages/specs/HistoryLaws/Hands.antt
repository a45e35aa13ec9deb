-- The own row that a call has in hand: the one that it uses, or the one that it makes; 0 where it has none. This project's
-- own.
use Rattle.std.specs.Prelude.{ℕ, ◌+◌, cond, length}
use Rattle.opfs_base.specs.Texts.{Text}
use Rattle.opfs_hist.specs.Sums.{asks_for_row}
use Rattle.opfs_hist.specs.declared.op.Op.{Op}
use Rattle.opfs_laws.specs.Leaving.{row_used}
use Rattle.opfs_machine.specs.declared.own.Own.{Own}
use Rattle.opfs_machine.specs.declared.state.State.{State}
use Rattle.opfs_machine.specs.Agents.{agent_of}

unfoldable pub row_in_hand : State Text Own → ℕ → Op → ℕ
row_in_hand s k op = cond (asks_for_row op) (length (agent_of s k).own + 1) (row_used op)
