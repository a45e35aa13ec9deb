use Rattle.std.proofs.Common.{◌≡◌, ◌≤◌, ◌<◌, ◌/◌, ℕ, false}
use Rattle.opfs_work.specs.Pages.{is_far, page_at}
use Rattle.opfs_work.proofs.table.Table.is_near_between.Given as goal

abbrev pub invariant-loop-page : goal.invariant-loop-page
invariant-loop-page l = (k : ℕ) → l.from / 4096 ≤ k → k < l.page → is_far (page_at l.self.pages k) ≡ false
