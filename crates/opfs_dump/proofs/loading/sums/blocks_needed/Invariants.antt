use Rattle.std.proofs.Common.{◌≡◌, ◌+◌, drop}
use Rattle.std.specs.Prelude.{sum_by}
use Rattle.opfs_dump.specs.Text.Limits.{stored_blocks}
use Rattle.opfs_dump.specs.Text.Seen.{stored_of}
use Rattle.opfs_dump.proofs.loading.sums.blocks_needed.Given as goal

abbrev pub invariant-loop-row : goal.invariant-loop-row
invariant-loop-row l = l.sum + sum_by (λ r. stored_blocks (stored_of r.file)) (drop l.row-index l.rows) ≡ sum_by (λ r. stored_blocks (stored_of r.file)) l.rows
