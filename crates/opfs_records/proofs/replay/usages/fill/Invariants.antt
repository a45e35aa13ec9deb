use Rattle.std.proofs.Common.{◌≡◌, ◌+◌, ℕ, length}
use Rattle.std.specs.List.{sum_by}
use Rattle.opfs_codec.specs.declared.change.Format.TheVariants.{New}
use Rattle.opfs_base.specs.Texts.{Text}
use Rattle.opfs_tree.specs.Rows.{Rows, rows_above}
use Rattle.opfs_shed.specs.Buckets.{Buckets, bucket_at, whole_usage}
use Rattle.opfs_records.specs.Replay.Sums.{usage_in, row_charge, persistent_in}
use Rattle.opfs_records.proofs.replay.usages.fill.Given as goal

-- What was counted, and what is left.
pub record IsCounted (rows rest : Rows) (old new : Buckets) (quota quota_now sum cost : ℕ) : Type 0 where
  pub used : sum ≡ whole_usage new
  pub usage : (unit : Text) → (bucket_at new unit).usage + usage_in unit rest ≡ usage_in unit rows
  pub persistent : persistent_in new ≡ persistent_in old
  pub same_quota : quota_now ≡ quota
  pub charge : cost + sum_by (λ e. row_charge New e.0 e.1) rest ≡ sum_by (λ e. row_charge New e.0 e.1) rows

abbrev pub invariant-loop-row : goal.invariant-loop-row
invariant-loop-row l = IsCounted l.tree (rows_above l.walk l.tree) l.fn.shed.buckets l.shed.buckets l.fn.shed.quota l.shed.quota l.used l.charge

abbrev pub decreases-loop-row : goal.decreases-loop-row
decreases-loop-row l = length (rows_above l.walk l.tree)
