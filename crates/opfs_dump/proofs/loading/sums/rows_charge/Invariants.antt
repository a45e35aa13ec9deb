use Rattle.std.proofs.Common.{◌≡◌, ◌+◌, drop}
use Rattle.std.specs.Prelude.{sum_by}
use Rattle.opfs_codec.specs.declared.change.Format.TheVariants.{New}
use Rattle.opfs_dump.specs.Text.Limits.{bare_row}
use Rattle.opfs_dump.specs.Text.Seen.{stored_of}
use Rattle.opfs_records.specs.Replay.Sums.{row_charge}
use Rattle.opfs_dump.proofs.loading.sums.rows_charge.Given as goal

abbrev pub invariant-loop-row : goal.invariant-loop-row
invariant-loop-row l = l.sum + sum_by (λ r. row_charge New r.place (bare_row (stored_of r.file))) (drop l.row-index l.rows) ≡ sum_by (λ r. row_charge New r.place (bare_row (stored_of r.file))) l.rows
