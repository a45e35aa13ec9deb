use Rattle.std.proofs.Common.{arith, add-one}
use Rattle.opfs_rulings.proofs.Taking.{taken_next}
use Rattle.opfs_rulings.proofs.room.taken_units.Goals as goal

pub loop-entry-preserved : goal.loop-entry-preserved
loop-entry-preserved c =
    rw add-one
    (λ unit. taken_next c.args.rows.now c.loop-entry.entry-index c.entry-item.result _ _ (omega arith) c.entry-item.is c.in_ok-add_taken.ensures unit (c.loop-entry.invariant unit))
