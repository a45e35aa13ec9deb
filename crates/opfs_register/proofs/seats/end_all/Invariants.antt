use Rattle.std.proofs.Common.{length}
use Rattle.opfs_register.proofs.seats.end_all.Given as goal

abbrev pub decreases-loop-seats : goal.decreases-loop-seats
decreases-loop-seats l = length l.seats.items
