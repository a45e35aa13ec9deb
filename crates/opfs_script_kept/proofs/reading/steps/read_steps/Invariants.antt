use Rattle.std.proofs.Common.{length}
use Rattle.opfs_script_kept.proofs.reading.Stepping.{Steps}
use Rattle.opfs_script_kept.proofs.reading.steps.read_steps.Given as goal

abbrev pub invariant-loop-alloc : goal.invariant-loop-alloc
invariant-loop-alloc l = Steps l.initial.reader l.reader l.texts l.initial.sums l.sums

abbrev pub decreases-loop-alloc : goal.decreases-loop-alloc
decreases-loop-alloc l = length l.reader
