use Rattle.std.proofs.Common.{◌≡◌, ◌++◌, ◌≤◌, length, vec_capacity}
use Rattle.std.specs.List.{flat_map}
use Rattle.opfs_tree.specs.Rows.{extents_of}
use Rattle.opfs_tree.specs.Units.{below, beside, values}
use Rattle.opfs_tree.proofs.unit.Unit.remove.Given as goal

abbrev pub invariant-loop-row : goal.invariant-loop-row
invariant-loop-row l = record {
  rest : beside l.top l.self ≡ beside l.top l.initial.self;
  freed : l.freed.items ++ flat_map extents_of (values (below l.top l.self)) ≡ l.initial.freed.items ++ flat_map extents_of (values (below l.top l.initial.self));
  fits : length (l.freed.items ++ flat_map extents_of (values (below l.top l.self))) ≤ vec_capacity l.freed;
  room : vec_capacity l.initial.freed ≤ vec_capacity l.freed;
}

abbrev pub decreases-loop-row : goal.decreases-loop-row
decreases-loop-row l = length (values (below l.top l.self))
