use Rattle.std.proofs.Common.{◌≡◌, ◌+◌, ◌-◌, ◌*◌, ◌^◌, ◌≤◌, ◌++◌, min, List, ℕ, length, vec_capacity}
use Rattle.std.specs.List.{AllByRecursion}
use Rattle.opfs_data.specs.Placing.{left_blocks, left_runs}
use Rattle.opfs_data.specs.Writes.{PageWrite, run_pages, run_writes, writes_of, source_bytes, placed, IsOwnWithin, IsWithin, AreWithin}
use Rattle.opfs_data.proofs.places.place_run.Given as goal

abbrev pub invariant-loop-done : goal.invariant-loop-done
invariant-loop-done l = record {
  inside : l.done ≤ l.run.count;
  placed_are : (own given : List ℕ) (later : List PageWrite)
      → writes_of own given l.runs.items ++ placed (run_pages (source_bytes own given l.run.source) (l.run.page + l.done) (l.run.block + l.done) (l.run.from + 4096 * l.done) (l.run.count - l.done) ++ later) (left_blocks l.extents l.left)
      ≡ writes_of own given l.fn.runs.items ++ placed (run_writes own given l.run ++ later) (left_blocks l.extents l.fn.left);
  own : (own : List ℕ) → AllByRecursion (IsOwnWithin own) l.fn.runs.items → IsOwnWithin own l.run → AllByRecursion (IsOwnWithin own) l.runs.items;
  within : (own given : List ℕ) → AreWithin own given l.fn.runs.items → IsWithin own given l.run → AreWithin own given l.runs.items;
  blocks : length (left_blocks l.extents l.left) + l.done ≡ length (left_blocks l.extents l.fn.left);
  room : length l.runs.items + left_runs l.extents l.left ≤ length l.fn.runs.items + left_runs l.extents l.fn.left + (1 - min (l.run.count - l.done) 1);
  capacity : vec_capacity l.fn.runs ≤ vec_capacity l.runs;
  start : l.left.start + l.left.count ≤ 2 ^ 32;
  next : l.left.next ≤ length l.extents;
}

abbrev pub decreases-loop-done : goal.decreases-loop-done
decreases-loop-done l = l.run.count - l.done
