use Rattle.std.proofs.Common.{◌≡◌, ◌+◌, ℕ, List, length, drop}
use Rattle.opfs_data.specs.Writes.{writes_of}
use Rattle.opfs_data.proofs.writes.count_pages.Given as goal

abbrev pub invariant-loop-run : goal.invariant-loop-run
invariant-loop-run l = (own given : List ℕ) → l.count + length (writes_of own given (drop l.run-index l.runs)) ≡ length (writes_of own given l.runs)
