use Rattle.std.proofs.Common.{◌≡◌, ◌+◌, take}
use Rattle.std.specs.Prelude.{sum_by}
use Rattle.opfs_script.specs.Limits.{bytes_asked}
use Rattle.opfs_script.proofs.agents.left_after.Given as goal

abbrev pub invariant-loop-step : goal.invariant-loop-step
invariant-loop-step l = l.left + sum_by bytes_asked (take l.step-index l.steps) ≡ l.bytes
