use Rattle.opfs_judge.specs.Agents.{AreFronts}
use Rattle.opfs_judge.proofs.agents.fronts.Given as goal

abbrev pub invariant-loop-index : goal.invariant-loop-index
invariant-loop-index l = AreFronts l.index l.fronts.items
