use Rattle.std.proofs.Common.{◌≡◌, length, take, List, ℕ}
use Rattle.opfs_data.specs.Writes.{writes_of}
use Rattle.opfs_data.specs.Pages.{with_writes}
use Rattle.opfs_data.proofs.placing.place_writes.Given as goal

abbrev pub invariant-loop-run : goal.invariant-loop-run
invariant-loop-run l = record {
  size : length l.pages.items ≡ length l.initial.pages.items;
  placed : (own given : List ℕ) → l.pages.items ≡ with_writes (writes_of own given (take l.run-index l.runs)) l.initial.pages.items;
}
