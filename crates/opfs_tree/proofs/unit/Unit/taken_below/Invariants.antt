use Rattle.std.proofs.Common.{◌≡◌, ◌+◌}
use Rattle.opfs_tree.specs.Units.{below, front, taken_in}
use Rattle.opfs_tree.proofs.unit.Unit.taken_below.Given as goal

abbrev pub invariant-loop-path : goal.invariant-loop-path
invariant-loop-path l = l.count + taken_in (front l.top l.path-iterator) ≡ taken_in (below l.top l.self)
