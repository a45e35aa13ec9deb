use Rattle.std.proofs.Common.{◌≡◌, length}
use Rattle.std.specs.List.{list_any}
use Rattle.opfs_transcripts.specs.Waiting.Fixed.{has_await, is_await}
use Rattle.opfs_judge.proofs.settling.packed_awaits.Given as goal

abbrev pub invariant-loop-step : goal.invariant-loop-step
invariant-loop-step l = has_await l.agent ≡ list_any is_await l.ahead

abbrev pub decreases-loop-step : goal.decreases-loop-step
decreases-loop-step l = length l.ahead
