use Rattle.std.proofs.Common.{◌-◌, length}
use Rattle.opfs_data.specs.Pages.{ArePlaced}
use Rattle.opfs_data.proofs.paged_row.count_placed.Given as goal

abbrev pub invariant-loop-count : goal.invariant-loop-count
invariant-loop-count l = ArePlaced l.count l.pages

abbrev pub decreases-loop-count : goal.decreases-loop-count
decreases-loop-count l = length l.pages - l.count
