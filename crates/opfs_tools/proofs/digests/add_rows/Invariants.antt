use Rattle.std.proofs.Common.{◌≡◌, ◌++◌, length}
use Rattle.opfs_data.specs.Calls.{Reads}
use Rattle.opfs_tree.specs.Rows.{rows_above}
use Rattle.opfs_tools.specs.Reading.{RowsLie, stored_lines}
use Rattle.opfs_tools.proofs.digests.add_rows.Given as goal

abbrev pub invariant-loop-row : goal.invariant-loop-row
invariant-loop-row g l = record {
  lies : RowsLie l.base (g.D.Disk.size l.fn.journal.disk) (rows_above l.walk l.tree);
  reads : Reads g.D.Disk l.fn.journal l.journal;
  text : g.D.Disk.tells → l.text.items ++ stored_lines l.base (g.D.Disk.content l.fn.journal.disk) (rows_above l.walk l.tree)
      ≡ l.fn.text.items ++ stored_lines l.base (g.D.Disk.content l.fn.journal.disk) l.tree;
}

abbrev pub decreases-loop-row : goal.decreases-loop-row
decreases-loop-row g l = length (rows_above l.walk l.tree)
