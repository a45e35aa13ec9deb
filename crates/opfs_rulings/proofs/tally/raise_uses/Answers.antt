use Rattle.std.proofs.Common.{arith, add-one}
use Rattle.opfs_rulings.proofs.Uses.{raised_more}
use Rattle.opfs_rulings.proofs.tally.raise_uses.Goals as goal

pub loop-at-preserved : goal.loop-at-preserved
loop-at-preserved c = rw add-one (raised_more _ c.index-uses-at.result c.raise_use.new.entry _ c.args.uses.now c.loop-at.uses (omega arith) c.in_ok-raise_use.ensures c.loop-at.invariant)
