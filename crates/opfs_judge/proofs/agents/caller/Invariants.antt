use Rattle.std.proofs.Common.{◌≡◌, ◌<◌, ℕ, false, [], get_or}
use Rattle.opfs_transcripts.specs.Told.Reading.{begins}
use Rattle.opfs_judge.proofs.agents.caller.Given as goal

abbrev pub invariant-loop-index : goal.invariant-loop-index
invariant-loop-index l = (i : ℕ) → i < l.index → begins (get_or l.fronts i []) l.text ≡ false
