use Rattle.std.proofs.Common.{length}
use Rattle.std.specs.Option.{option_copied}
use Rattle.std.specs.Prelude.{vec_capacity}
use Rattle.opfs_records.specs.Replay.Sums.{persistent_in}
use Rattle.opfs_records.proofs.checkpoint.Left.{UnitsLeft}
use Rattle.opfs_records.proofs.checkpoint.Ordered.{persistent_behind}
use Rattle.opfs_records.proofs.checkpoint.units.write_units.Given as goal

abbrev pub invariant-loop-unit : goal.invariant-loop-unit
invariant-loop-unit l = UnitsLeft (persistent_in l.shed.buckets) (persistent_behind (option_copied l.last) l.shed.buckets) l.fn.into.items l.into.items (vec_capacity l.fn.into) (vec_capacity l.into)

abbrev pub decreases-loop-unit : goal.decreases-loop-unit
decreases-loop-unit l = length (persistent_behind (option_copied l.last) l.shed.buckets)
