use Rattle.std.proofs.Common.{◌≡◌, true}
use Rattle.std.specs.List.{range_with_len}
use Rattle.opfs_blocks.specs.Steps.{can_adopt}
use Rattle.opfs_blocks.proofs.runs.are_clear.Given as goal

abbrev pub invariant-loop-k : goal.invariant-loop-k
invariant-loop-k l = can_adopt l.bits (range_with_len l.extent.start l.k) ≡ true
