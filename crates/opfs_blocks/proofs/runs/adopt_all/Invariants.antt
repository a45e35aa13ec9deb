use Rattle.std.proofs.Common.{◌≡◌, true, take}
use Rattle.opfs_blocks.specs.Sets.{marked, blocks_of}
use Rattle.opfs_blocks.specs.Steps.{can_adopt}
use Rattle.opfs_blocks.proofs.runs.adopt_all.Given as goal

abbrev pub invariant-loop-i : goal.invariant-loop-i
invariant-loop-i l =
    (l.bits ≡ marked true (blocks_of (take l.i l.extents)) l.fn.bits) × (can_adopt l.fn.bits (blocks_of (take l.i l.extents)) ≡ true)
