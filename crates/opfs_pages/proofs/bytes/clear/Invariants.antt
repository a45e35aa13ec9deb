use Rattle.std.proofs.Common.{◌≡◌, ℕ, ◌<◌, ◌≤◌, get_or, length}
use Rattle.opfs_pages.proofs.bytes.clear.Given as goal

abbrev pub invariant-loop-i : goal.invariant-loop-i
invariant-loop-i l = ((k : ℕ) → k < l.offset → get_or l.bytes k 0 ≡ get_or l.fn.bytes k 0) × ((k : ℕ) → l.offset ≤ k → k < l.i → get_or l.bytes k 0 ≡ 0) × (length l.bytes ≡ length l.fn.bytes)
