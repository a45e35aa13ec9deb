use Rattle.std.proofs.Common.{arith, add-one}
use Rattle.opfs_rulings.proofs.Totals.{lowered_first, lowered_next, lowered_last}
use Rattle.opfs_rulings.proofs.weights.lowered_within.Goals as goal

pub loop-entry-init : goal.loop-entry-init
loop-entry-init c rest h = lowered_first c.args.place.now c.args.rows.now _ rest h

pub loop-entry-preserved : goal.loop-entry-preserved
loop-entry-preserved c rest h =
    rw add-one
    (lowered_next c.args.place.now c.args.rows.now c.loop-entry.entry-index c.entry-item.result c.loop-entry.left c.lowered_by-left.result (omega arith) c.entry-item.is c.lowered_by-left.ensures rest (c.loop-entry.invariant rest h))

pub returns : goal.returns
returns c rest h = lowered_last c.args.place.now c.args.rows.now _ _ rest (omega arith) (c.loop-entry.invariant rest h)
