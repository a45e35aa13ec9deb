use Rattle.std.proofs.Common.{length}
use mathlib.Core.List.{reverse}
use Rattle.opfs_runner.proofs.Endings.{Ending}
use Rattle.opfs_runner.proofs.ends.end_rows.Given as goal

abbrev pub invariant-loop-agent_row : goal.invariant-loop-agent_row
invariant-loop-agent_row g l = Ending g.S.Store.tells l.fn.agent l.fn.agent_rows.items l.agent (reverse l.agent_rows.items)

abbrev pub decreases-loop-agent_row : goal.decreases-loop-agent_row
decreases-loop-agent_row g l = length l.agent_rows.items
