use Rattle.std.proofs.Common.{◌≡◌, ◌++◌, ◌≤◌, ◌+◌, ◌^◌, drop}
use Rattle.std.specs.List.{AllByRecursion}
use Rattle.opfs_data.specs.Pages.{pages_in}
use Rattle.opfs_data.proofs.placing.open_pages.Given as goal

abbrev pub invariant-loop-extent : goal.invariant-loop-extent
invariant-loop-extent l = record {
  pages : l.pages.items ++ pages_in (drop l.extent-index l.extents) ≡ pages_in l.extents;
  small : AllByRecursion (λ extent. extent.start + extent.count ≤ 2 ^ 32) (drop l.extent-index l.extents);
}
