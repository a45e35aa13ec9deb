use Rattle.std.proofs.Common.{◌≡◌}
use Rattle.opfs_tree.specs.Units.{below, front, children_in, find_outside}
use Rattle.opfs_tree.proofs.unit.Unit.child_outside.Given as goal

abbrev pub invariant-loop-path : goal.invariant-loop-path
invariant-loop-path l =
    find_outside l.given (children_in l.dir (front l.dir l.path-iterator)) ≡ find_outside l.given (children_in l.dir (below l.dir l.self))
