use Rattle.std.proofs.Common.{◌↔◌, length}
use Rattle.opfs_tree.specs.Rows.{rows_above}
use Rattle.opfs_records.proofs.checkpoint.Left.{AllWritable}
use Rattle.opfs_records.proofs.checkpoint.checks.are_rows.Given as goal

-- the rows that are left can be written exactly where all can
abbrev pub invariant-loop-row : goal.invariant-loop-row
invariant-loop-row l = AllWritable (rows_above l.walk l.tree.rows) ↔ AllWritable l.tree.rows

abbrev pub decreases-loop-row : goal.decreases-loop-row
decreases-loop-row l = length (rows_above l.walk l.tree.rows)
