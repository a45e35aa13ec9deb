use Rattle.std.proofs.Common.{◌≡◌, ◌++◌, length}
use Rattle.opfs_tree.specs.Rows.{rows_above}
use Rattle.opfs_tools.specs.Sights.{sights_in}
use Rattle.opfs_tools.proofs.gathering.rows_of.Given as goal

abbrev pub invariant-loop-row : goal.invariant-loop-row
invariant-loop-row l = l.rows.items ++ sights_in (rows_above l.walk l.tree) ≡ sights_in l.tree

abbrev pub decreases-loop-row : goal.decreases-loop-row
decreases-loop-row l = length (rows_above l.walk l.tree)
