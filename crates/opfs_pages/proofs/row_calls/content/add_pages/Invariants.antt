use Rattle.std.proofs.Common.{◌≡◌, ◌≤◌, ◌<◌, ◌-◌, length, take}
use Rattle.std.specs.List.{AllByRecursion}
use Rattle.std.specs.Vec.{vec_capacity}
use Rattle.opfs_blocks.specs.Sets.{blocks_of}
use Rattle.opfs_space.specs.Spaces.{page_blocks}
use Rattle.opfs_pages.proofs.row_calls.content.add_pages.Given as goal

abbrev pub invariant-loop-page : goal.invariant-loop-page
invariant-loop-page l = record {
  blocks : blocks_of l.into.items ≡ page_blocks (take l.page l.row);
  within : l.page ≤ l.pages;
  some : AllByRecursion (λ e. 0 < e.count) l.into.items;
  few : length l.into.items ≤ l.page;
  room : l.pages ≤ vec_capacity l.into;
}

abbrev pub decreases-loop-page : goal.decreases-loop-page
decreases-loop-page l = l.pages - l.page
