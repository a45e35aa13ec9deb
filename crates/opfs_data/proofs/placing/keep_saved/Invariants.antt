use Rattle.std.proofs.Common.{◌≡◌, ◌<◌, ◌≤◌, length, vec_len, vec_capacity}
use Rattle.std.specs.List.{AllByRecursion}
use Rattle.opfs_data.specs.Pages.{with_kept}
use Rattle.opfs_data.proofs.placing.keep_saved.Given as goal

abbrev pub invariant-loop-last : goal.invariant-loop-last
invariant-loop-last l = record {
  inside : AllByRecursion (λ s. s.page < length l.pages.items) l.saved.items;
  kept : with_kept l.saved.items l.pages.items ≡ with_kept l.initial.saved.items l.initial.pages.items;
  capacity : vec_capacity l.initial.pages ≤ vec_capacity l.pages;
}

abbrev pub decreases-loop-last : goal.decreases-loop-last
decreases-loop-last l = vec_len l.saved
