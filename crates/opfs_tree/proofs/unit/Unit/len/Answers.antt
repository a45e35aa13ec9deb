use Rattle.std.proofs.Common.{ap, length, arith}
use Rattle.opfs_tree.proofs.Counts.{few}
use Rattle.opfs_tree.proofs.unit.Unit.len.Goals as goal

pub returns-clause-taken : goal.returns-clause-taken
returns-clause-taken c = omega (arith, few c.args.self.now, ap length c.self.view_is, c.len.ensures)
