use Rattle.std.proofs.Common.{drop}
use Rattle.opfs_desk_steps.specs.Iterating.Below.{AreBelow}
use Rattle.opfs_desk_steps.proofs.iterating.iterators.are_below.Given as goal

abbrev pub invariant-loop-other : goal.invariant-loop-other
invariant-loop-other l = AreBelow l.name (drop l.other-index l.past) → AreBelow l.name l.past
