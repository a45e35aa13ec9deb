use Rattle.std.proofs.Common.{◌≡◌, drop}
use Rattle.opfs_records.specs.Replay.Kept.{has_blocks}
use Rattle.opfs_records.proofs.replay.stores.has_blocks.Given as goal

abbrev pub invariant-loop-extent : goal.invariant-loop-extent
invariant-loop-extent l = has_blocks (drop l.extent-index l.extents) l.left ≡ has_blocks l.extents l.count
