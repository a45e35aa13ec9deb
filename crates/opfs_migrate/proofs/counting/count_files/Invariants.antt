use Rattle.std.proofs.Common.{◌≡◌, ◌+◌, count_by, is_some, length}
use Rattle.opfs_tree.specs.Rows.{file_in, rows_above}
use Rattle.opfs_migrate.proofs.counting.count_files.Given as goal

abbrev pub invariant-loop-row : goal.invariant-loop-row
invariant-loop-row l = l.files + count_by (λ e. is_some (file_in e.1)) (rows_above l.walk l.tree) ≡ count_by (λ e. is_some (file_in e.1)) l.tree

abbrev pub decreases-loop-row : goal.decreases-loop-row
decreases-loop-row l = length (rows_above l.walk l.tree)
