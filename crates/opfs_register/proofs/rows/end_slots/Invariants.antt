use Rattle.std.proofs.Common.{length}
use Rattle.opfs_register.proofs.rows.end_slots.Given as goal

abbrev pub decreases-loop-slots : goal.decreases-loop-slots
decreases-loop-slots l = length l.slots.items
