use Rattle.std.proofs.Common.{◌<◌, ◌^◌, arith}
use Rattle.opfs_machine.specs.Contents.{in_lengths}
use Rattle.opfs_machine.specs.Sums.{charge}
use Rattle.opfs_state_rows.specs.Standing.Seen.{machine_of}
use Rattle.opfs_state_rows.proofs.standing.Counted.{charge-is}
use Rattle.opfs_state_rows.proofs.standing.standing.Standing.charge.Goals as goal

pub overflow_add-result : goal.overflow_add-result
overflow_add-result c =
    let m = machine_of c.self.inside.tree.rows c.self.inside.shed.buckets c.self.inside.register in
    let small : charge in_lengths m < 2 ^ 64 = rw (← c.self.view_is) at c.requires in
    omega (arith, small, charge-is m, c.self.invariant.fixed, c.self.invariant.held, c.count.ensures.count)
