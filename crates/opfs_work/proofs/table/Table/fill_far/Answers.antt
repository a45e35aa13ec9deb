use Rattle.std.proofs.Common.{arith}
use Rattle.opfs_work.proofs.Stretched.{filled_more}
use Rattle.opfs_work.proofs.table.Table.fill_far.Goals as goal

pub loop-self-preserved : goal.loop-self-preserved
loop-self-preserved c = filled_more _ _ _ _ c.loop-self.invariant (omega (arith, c.len.ensures.len)) c.push.ensures
