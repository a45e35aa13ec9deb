use Rattle.std.proofs.Common.{◌≡◌, ◌+◌, ◌≤◌, ◌++◌, true, length, drop, vec_len}
use Rattle.std.specs.Vec.{vec_capacity}
use Rattle.opfs_blocks.specs.Sets.{free_from, free_blocks, marked, blocks_in, blocks_of}
use Rattle.opfs_blocks.specs.Steps.{IsFull, AreApart}
use Rattle.opfs_blocks.proofs.runs.take_clear.Given as goal

abbrev pub invariant-loop : goal.invariant-loop
invariant-loop l = record {
  end : l.place ≡ l.run.start + l.run.count;
  size : length l.bits ≡ l.size;
  full : IsFull l.place l.bits;
  blocks : (blocks_of l.into.items ++ blocks_in l.run) ++ free_from l.place (drop l.place l.bits) ≡ free_blocks l.fn.bits;
  count : length (blocks_of l.into.items ++ blocks_in l.run) ≡ l.counter;
  used : l.bits ≡ marked true (blocks_of l.into.items ++ blocks_in l.run) l.fn.bits;
  apart : AreApart l.into.items l.run.start;
  within : vec_len l.into + l.run.count ≤ l.counter;
  room : vec_capacity l.fn.into ≤ vec_capacity l.into;
}
