use Rattle.std.proofs.Common.{arith, add-one}
use Rattle.opfs_rulings.proofs.Roots.{roots_fold}
use Rattle.opfs_rulings.proofs.room.candidates.Goals as goal

pub loop-entry-preserved : goal.loop-entry-preserved
loop-entry-preserved c =
    rw add-one
    (roots_fold _ _ _ _ c.as_slice-entry-items.result.now c.loop-entry.entry-index c.entry-item.result _ (omega arith) c.entry-item.is c.in_ok-add_candidate.ensures c.loop-entry.invariant)
