use Rattle.std.proofs.Common.{◌≡◌}
use Rattle.opfs_tree.specs.Rows.{first_taken}
use Rattle.opfs_tree.specs.Units.{below, front, values}
use Rattle.opfs_tree.proofs.unit.Unit.first_locked.Given as goal

abbrev pub invariant-loop-path : goal.invariant-loop-path
invariant-loop-path l = first_taken (values (front l.top l.path-iterator)) ≡ first_taken (values (below l.top l.self))
