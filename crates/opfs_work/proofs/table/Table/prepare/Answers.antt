use Rattle.std.proofs.Common.{arith}
use Rattle.opfs_work.proofs.Counts.{near_count-le}
use Rattle.opfs_work.proofs.table.Table.prepare.Goals as goal

pub overflow_sub-buffers : goal.overflow_sub-buffers
overflow_sub-buffers c = omega (arith, c.self.invariant.counted, near_count-le c.self.inside.pages.items)
