use Rattle.std.proofs.Common.{length}
use Rattle.opfs_script_kept.proofs.reading.Listing.{Listed}
use Rattle.opfs_script_kept.proofs.reading.agents.read_agents.Given as goal

abbrev pub invariant-loop-alloc : goal.invariant-loop-alloc
invariant-loop-alloc l = Listed l.initial.reader l.reader l.agents.items l.sums

abbrev pub decreases-loop-alloc : goal.decreases-loop-alloc
decreases-loop-alloc l = length l.reader
