-- The blocks that are left of runs while pages get theirs. This project's own.
use Rattle.std.specs.Prelude.{ℕ, ◌+◌, ◌-◌, ◌++◌, List, length, drop, min}
use Rattle.std.specs.List.{range_with_len}
use Rattle.opfs_base.specs.declared.extents.Extent.{Extent}
use Rattle.opfs_data.specs.declared.places.Left.{Left}
use Rattle.opfs_data.specs.Writes.{blocks_in}

abbrev pub left_blocks : List Extent → Left → List ℕ
left_blocks extents left = range_with_len left.start left.count ++ blocks_in (drop left.next extents)

-- how many runs are left, with the one that is begun
abbrev pub left_runs : List Extent → Left → ℕ
left_runs extents left = length extents - left.next + min left.count 1
