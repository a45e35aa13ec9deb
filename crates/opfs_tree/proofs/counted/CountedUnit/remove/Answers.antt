use Rattle.std.proofs.Common.{arith}
use Rattle.opfs_tree.proofs.Counts.{counted_below, counted_gone, counted_beside}
use Rattle.opfs_tree.proofs.counted.CountedUnit.remove.Goals as goal

pub taken_below-gone-requires : goal.taken_below-gone-requires
taken_below-gone-requires c = counted_below _ _ c.self.invariant c.args.top.now (omega arith)

pub overflow_sub-self : goal.overflow_sub-self
overflow_sub-self c = counted_gone _ _ c.self.invariant c.args.top.now _ c.taken_below-gone.ensures

pub invariant_of-self : goal.invariant_of-self
invariant_of-self c = counted_beside _ _ c.self.invariant c.args.top.now _ _ c.taken_below-gone.ensures c.remove.ensures.rows
