use Rattle.std.proofs.Common.{arith, add-one}
use Rattle.opfs_rulings.proofs.Uses.{lowered_more}
use Rattle.opfs_rulings.proofs.tally.lower_uses.Goals as goal

pub loop-at-preserved : goal.loop-at-preserved
loop-at-preserved c = rw add-one (lowered_more _ c.index-uses-at.result c.lower_use.new.entry _ c.args.uses.now c.loop-at.uses (omega arith) c.in_ok-lower_use.ensures c.loop-at.invariant)
