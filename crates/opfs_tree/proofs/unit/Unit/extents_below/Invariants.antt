use Rattle.std.proofs.Common.{◌≡◌, ◌+◌, length}
use Rattle.std.specs.List.{flat_map}
use Rattle.opfs_tree.specs.Rows.{extents_of}
use Rattle.opfs_tree.specs.Units.{below, front, values}
use Rattle.opfs_tree.proofs.unit.Unit.extents_below.Given as goal

abbrev pub invariant-loop-path : goal.invariant-loop-path
invariant-loop-path l =
    l.count + length (flat_map extents_of (values (front l.top l.path-iterator))) ≡ length (flat_map extents_of (values (below l.top l.self)))
