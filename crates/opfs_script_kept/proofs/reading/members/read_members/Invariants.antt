use Rattle.std.proofs.Common.{length}
use Rattle.opfs_script_kept.proofs.reading.Gathering.{Gathered}
use Rattle.opfs_script_kept.proofs.reading.members.read_members.Given as goal

abbrev pub invariant-loop-key : goal.invariant-loop-key
invariant-loop-key l = Gathered l.agent l.initial.reader l.reader l.draft l.initial.sums l.sums

abbrev pub decreases-loop-key : goal.decreases-loop-key
decreases-loop-key l = length l.reader
