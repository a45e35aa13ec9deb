use Rattle.std.proofs.Common.{drop}
use Rattle.std.specs.List.{AllByRecursion}
use Rattle.opfs_codec.specs.Spelling.{IsExtent}
use Rattle.opfs_records.proofs.checkpoint.checks.are_extents.Given as goal

-- where the extents that are left have words of 32 bits, all have
abbrev pub invariant-loop-extent : goal.invariant-loop-extent
invariant-loop-extent l = AllByRecursion IsExtent (drop l.extent-index l.extents) → AllByRecursion IsExtent l.extents
