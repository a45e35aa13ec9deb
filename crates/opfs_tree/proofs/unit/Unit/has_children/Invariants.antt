use Rattle.std.proofs.Common.{◌≡◌}
use Rattle.opfs_tree.specs.Units.{below, front, has_children_in}
use Rattle.opfs_tree.proofs.unit.Unit.has_children.Given as goal

abbrev pub invariant-loop-path : goal.invariant-loop-path
invariant-loop-path l = has_children_in l.dir (front l.dir l.path-iterator) ≡ has_children_in l.dir (below l.dir l.self)
