use Rattle.std.proofs.Common.{◌≡◌, ℕ, ◌-◌, ◌<◌, ◌≤◌, true}
use Rattle.opfs_blocks.specs.Words.{bit_of}
use Rattle.opfs_blocks.proofs.bits.first_clear_bit.Given as goal

abbrev pub invariant-loop-block : goal.invariant-loop-block
invariant-loop-block l =
    (l.from ≤ l.block) × (l.block ≤ l.end) × ((k : ℕ) → l.from ≤ k → k < l.block → bit_of l.words k ≡ true)

abbrev pub decreases-loop-block : goal.decreases-loop-block
decreases-loop-block l = l.end - l.block
