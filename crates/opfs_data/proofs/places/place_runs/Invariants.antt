use Rattle.std.proofs.Common.{◌≡◌, ◌+◌, ◌-◌, ◌^◌, ◌≤◌, ◌++◌, List, ℕ, length, drop, vec_capacity}
use Rattle.std.specs.List.{AllByRecursion}
use Rattle.opfs_data.specs.Placing.{left_blocks, left_runs}
use Rattle.opfs_data.specs.Writes.{writes_of, placed, blocks_in, IsOwnWithin, AreWithin}
use Rattle.opfs_data.proofs.places.place_runs.Given as goal

abbrev pub invariant-loop-run : goal.invariant-loop-run
invariant-loop-run l = record {
  placed_are : (own given : List ℕ) → writes_of own given l.runs.items ++ placed (writes_of own given (drop l.run-index l.moves)) (left_blocks l.extents l.left)
      ≡ writes_of own given l.fn.runs.items ++ placed (writes_of own given l.moves) (blocks_in l.extents);
  own : (own : List ℕ) → AllByRecursion (IsOwnWithin own) l.fn.runs.items → AllByRecursion (IsOwnWithin own) l.moves → AllByRecursion (IsOwnWithin own) l.runs.items;
  within : (own given : List ℕ) → AreWithin own given l.fn.runs.items → AreWithin own given l.moves → AreWithin own given l.runs.items;
  blocks : (own given : List ℕ) → length (writes_of own given (drop l.run-index l.moves)) ≡ length (left_blocks l.extents l.left);
  room : length l.runs.items + (length l.moves - l.run-index) + left_runs l.extents l.left ≤ vec_capacity l.runs;
  start : l.left.start + l.left.count ≤ 2 ^ 32;
  next : l.left.next ≤ length l.extents;
}
