use Rattle.std.proofs.Common.{length}
use Rattle.opfs_serving.proofs.serving.+seat_all.Given as goal

abbrev pub decreases-seat_all : goal.decreases-seat_all
decreases-seat_all g l = length l.hands.now.items
