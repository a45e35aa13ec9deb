use Rattle.std.proofs.Common.{◌≡◌, length, List, ℕ}
use Rattle.opfs_data.specs.Writes.{run_pages, source_bytes}
use Rattle.opfs_data.specs.Pages.{with_writes}
use Rattle.opfs_data.proofs.placing.place_pages.Given as goal

abbrev pub invariant-loop-k : goal.invariant-loop-k
invariant-loop-k l = record {
  size : length l.pages.items ≡ length l.initial.pages.items;
  placed : (own given : List ℕ) → l.pages.items ≡ with_writes (run_pages (source_bytes own given l.run.source) l.run.page l.run.block l.run.from l.k) l.initial.pages.items;
}
