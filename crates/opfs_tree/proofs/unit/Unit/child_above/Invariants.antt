use Rattle.std.proofs.Common.{◌≡◌}
use Rattle.opfs_tree.specs.Rows.{least_above}
use Rattle.opfs_tree.specs.Units.{below, front, children_in}
use Rattle.opfs_tree.proofs.unit.Unit.child_above.Given as goal

abbrev pub invariant-loop-path : goal.invariant-loop-path
invariant-loop-path l =
    least_above l.name (children_in l.dir (front l.dir l.path-iterator)) ≡ least_above l.name (children_in l.dir (below l.dir l.self))
