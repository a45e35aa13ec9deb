use Rattle.std.proofs.Common.{◌↔◌, length}
use Rattle.std.specs.Option.{option_copied}
use Rattle.opfs_records.specs.Replay.Sums.{persistent_in}
use Rattle.opfs_records.proofs.checkpoint.Left.{AllKeys}
use Rattle.opfs_records.proofs.checkpoint.Ordered.{persistent_behind}
use Rattle.opfs_records.proofs.checkpoint.checks.are_units.Given as goal

-- the units that are left can be written exactly where all can
abbrev pub invariant-loop-unit : goal.invariant-loop-unit
invariant-loop-unit l = AllKeys (persistent_behind (option_copied l.last) l.shed.buckets) ↔ AllKeys (persistent_in l.shed.buckets)

abbrev pub decreases-loop-unit : goal.decreases-loop-unit
decreases-loop-unit l = length (persistent_behind (option_copied l.last) l.shed.buckets)
