use Rattle.std.proofs.Common.{◌≡◌, ℕ, ◌+◌, ◌-◌, ◌<◌, ◌≤◌, Some, get_or}
use Rattle.opfs_data.specs.Pages.{blank}
use Rattle.opfs_pages.proofs.row_calls.content.run_length.Given as goal

abbrev pub invariant-loop-count : goal.invariant-loop-count
invariant-loop-count l = record {
  some : 0 < l.count;
  within : l.page + l.count ≤ l.pages;
  run : (k : ℕ) → k < l.count → (get_or l.row (l.page + k) blank).block ≡ Some (l.start + k);
}

abbrev pub decreases-loop-count : goal.decreases-loop-count
decreases-loop-count l = l.pages - (l.page + l.count)
