use Rattle.std.proofs.Common.{◌≡◌, ◌+◌, ◌≤◌, length, drop}
use Rattle.opfs_blocks.specs.Sets.{free_from, free_blocks}
use Rattle.opfs_blocks.proofs.runs.has_clear.Given as goal

abbrev pub invariant-loop : goal.invariant-loop
invariant-loop l = (l.place ≤ length l.bits) × (l.counter + length (free_from l.place (drop l.place l.bits)) ≡ length (free_blocks l.bits))
