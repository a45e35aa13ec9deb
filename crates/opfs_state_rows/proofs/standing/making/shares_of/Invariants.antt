use Rattle.std.proofs.Common.{◌≡◌, ℕ, length}
use Rattle.opfs_pool.specs.Shares.{Blocks}
use Rattle.opfs_shed.specs.Buckets.{Storage}
use Rattle.opfs_tree.specs.Rows.{Rows, rows_above}
use Rattle.opfs_state_rows.specs.Standing.Beginnings.{IsCounted}
use Rattle.opfs_state_rows.proofs.standing.making.shares_of.Given as goal

-- What was counted, and what is left.
pub record IsOn (rows rest : Rows) (start shed : Storage) (pool : Blocks) (size : ℕ) : Type 0 where
  pub wide : pool.size ≡ size
  pub counted : IsCounted rows rest start shed pool

abbrev pub invariant-loop-row : goal.invariant-loop-row
invariant-loop-row l = IsOn l.tree.rows (rows_above l.walk l.tree.rows) l.fn.shed l.shed l.pool l.size

abbrev pub decreases-loop-row : goal.decreases-loop-row
decreases-loop-row l = length (rows_above l.walk l.tree.rows)
