use Rattle.std.proofs.Common.{◌≡◌, ◌+◌, ◌-◌, ◌^◌, ◌<◌, min}
use Rattle.std.specs.List.{sum_by}
use Rattle.opfs_data.specs.Rows.{kept_in, kept_count}
use Rattle.opfs_data.proofs.swap.Swap.kept.Given as goal

abbrev pub invariant-loop-row : goal.invariant-loop-row
invariant-loop-row l = record {
  small : l.count < 2 ^ 64;
  total : min (l.count + sum_by kept_in l.row-iterator) (2 ^ 64 - 1) ≡ min (kept_count l.fn.self) (2 ^ 64 - 1);
}
