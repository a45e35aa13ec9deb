use Rattle.std.proofs.Common.{false, length}
use Rattle.opfs_tree.specs.Rows.{rows_above}
use Rattle.opfs_tools.specs.Reading.{RowsLie}
use Rattle.opfs_dump.specs.Dumping.Pieces.{rest_text}
use Rattle.opfs_dump.specs.Dumping.Putting.{DumpsSoFar}
use Rattle.opfs_dump.proofs.dumping.rows.put_rows.Given as goal

abbrev pub invariant-loop-row : goal.invariant-loop-row
invariant-loop-row g l = record {
  lies : RowsLie l.base (g.D.Disk.size l.fn.journal.disk) (rows_above l.walk l.tree);
  so_far : DumpsSoFar g.D.Disk g.K.Sink l.fn.journal l.journal l.fn.sink l.sink (λ c. rest_text false l.base c l.tree) (λ c. rest_text l.later l.base c (rows_above l.walk l.tree));
}

abbrev pub decreases-loop-row : goal.decreases-loop-row
decreases-loop-row g l = length (rows_above l.walk l.tree)
