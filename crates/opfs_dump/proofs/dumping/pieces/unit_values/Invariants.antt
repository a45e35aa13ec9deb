use Rattle.std.proofs.Common.{◌≡◌, ◌++◌, length}
use Rattle.std.specs.Prelude.{map}
use Rattle.std.specs.Option.{option_copied}
use Rattle.serde_json.specs.Data.{string}
use Rattle.serde_json.specs.View.{view}
use Rattle.opfs_records.specs.Replay.Sums.{persistent_in}
use Rattle.opfs_tools.proofs.Walking.{persistent_behind}
use Rattle.opfs_dump.proofs.dumping.pieces.unit_values.Given as goal

abbrev pub invariant-loop-key : goal.invariant-loop-key
invariant-loop-key l = map view l.values.items ++ map string (persistent_behind (option_copied l.last) l.shed.buckets) ≡ map string (persistent_in l.shed.buckets)

abbrev pub decreases-loop-key : goal.decreases-loop-key
decreases-loop-key l = length (persistent_behind (option_copied l.last) l.shed.buckets)
