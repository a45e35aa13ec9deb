use Rattle.std.proofs.Common.{length}
use Rattle.opfs_work.proofs.Stretched.{IsCut}
use Rattle.opfs_work.proofs.table.Table.cut.Given as goal

abbrev pub invariant-loop-self : goal.invariant-loop-self
invariant-loop-self l = IsCut l.fn.self l.self l.count

abbrev pub decreases-loop-self : goal.decreases-loop-self
decreases-loop-self l = length l.self.pages
