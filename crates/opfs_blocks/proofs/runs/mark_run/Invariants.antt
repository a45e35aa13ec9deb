use Rattle.std.proofs.Common.{◌≡◌}
use Rattle.std.specs.List.{range_with_len}
use Rattle.opfs_blocks.specs.Sets.{marked}
use Rattle.opfs_blocks.proofs.runs.mark_run.Given as goal

abbrev pub invariant-loop-k : goal.invariant-loop-k
invariant-loop-k l = l.bits ≡ marked l.used (range_with_len l.extent.start l.k) l.fn.bits
