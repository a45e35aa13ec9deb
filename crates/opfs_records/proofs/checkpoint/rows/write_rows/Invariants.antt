use Rattle.std.proofs.Common.{length}
use Rattle.std.specs.Prelude.{vec_capacity}
use Rattle.opfs_tree.specs.Rows.{rows_above}
use Rattle.opfs_records.proofs.checkpoint.Left.{RowsLeft}
use Rattle.opfs_records.proofs.checkpoint.rows.write_rows.Given as goal

abbrev pub invariant-loop-row : goal.invariant-loop-row
invariant-loop-row l = RowsLeft l.tree.rows (rows_above l.walk l.tree.rows) l.fn.into.items l.into.items (vec_capacity l.fn.into) (vec_capacity l.into)

abbrev pub decreases-loop-row : goal.decreases-loop-row
decreases-loop-row l = length (rows_above l.walk l.tree.rows)
