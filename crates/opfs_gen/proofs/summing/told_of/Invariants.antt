use Rattle.opfs_gen.specs.Telling.{IsToldTo}
use Rattle.opfs_gen.proofs.summing.told_of.Given as goal

abbrev pub invariant-loop-entry : goal.invariant-loop-entry
invariant-loop-entry l = IsToldTo l.agent l.history l.entry-iterator l.told
