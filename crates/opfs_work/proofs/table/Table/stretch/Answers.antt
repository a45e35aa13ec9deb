use Rattle.std.proofs.Common.{arith}
use Rattle.opfs_work.proofs.Stretched.{stretched_more}
use Rattle.opfs_work.proofs.table.Table.stretch.Goals as goal

pub loop-self-preserved : goal.loop-self-preserved
loop-self-preserved c = stretched_more _ _ _ _ c.loop-self.invariant (omega (arith, c.len.ensures.len)) c.push.ensures
