use Rattle.std.proofs.Common.{◌≡◌, ℕ, ◌<◌, true, length, drop, get_or}
use Rattle.opfs_blocks.specs.Sets.{marked, blocks_of, AreBelow}
use Rattle.opfs_blocks.proofs.runs.mark_all.Given as goal

abbrev pub invariant-loop-extent : goal.invariant-loop-extent
invariant-loop-extent l =
    (marked l.used (blocks_of (drop l.extent-index l.extents)) l.bits ≡ marked l.used (blocks_of l.extents) l.fn.bits)
    × AreBelow (length l.bits) (blocks_of (drop l.extent-index l.extents))
    × ((k : ℕ) → k < l.lowest → get_or l.bits k true ≡ get_or l.fn.bits k true)
