use Rattle.std.proofs.Common.{◌≡◌, ◌++◌, length}
use Rattle.std.specs.Option.{option_copied}
use Rattle.opfs_records.specs.Replay.Sums.{persistent_in}
use Rattle.opfs_tools.proofs.Walking.{persistent_behind}
use Rattle.opfs_tools.proofs.gathering.persistent_of.Given as goal

abbrev pub invariant-loop-key : goal.invariant-loop-key
invariant-loop-key l = l.units.items ++ persistent_behind (option_copied l.last) l.shed.buckets ≡ persistent_in l.shed.buckets

abbrev pub decreases-loop-key : goal.decreases-loop-key
decreases-loop-key l = length (persistent_behind (option_copied l.last) l.shed.buckets)
