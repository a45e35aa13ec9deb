use Rattle.std.proofs.Common.{◌≡◌}
use Rattle.opfs_tree.specs.Rows.{least_not_in}
use Rattle.opfs_tree.specs.Units.{below, front, children_in}
use Rattle.opfs_tree.proofs.unit.Unit.first_child.Given as goal

abbrev pub invariant-loop-path : goal.invariant-loop-path
invariant-loop-path l =
    least_not_in l.past (children_in l.dir (front l.dir l.path-iterator)) ≡ least_not_in l.past (children_in l.dir (below l.dir l.self))
