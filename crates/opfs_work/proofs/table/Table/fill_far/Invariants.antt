use Rattle.std.proofs.Common.{◌-◌, length}
use Rattle.opfs_work.proofs.Stretched.{IsFilled}
use Rattle.opfs_work.proofs.table.Table.fill_far.Given as goal

abbrev pub invariant-loop-self : goal.invariant-loop-self
invariant-loop-self l = IsFilled l.fn.self l.self l.count

abbrev pub decreases-loop-self : goal.decreases-loop-self
decreases-loop-self l = l.count - length l.self.pages
