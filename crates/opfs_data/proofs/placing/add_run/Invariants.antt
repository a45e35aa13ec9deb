use Rattle.std.proofs.Common.{◌≡◌, ◌++◌}
use Rattle.opfs_data.specs.Pages.{pages_from}
use Rattle.opfs_data.proofs.placing.add_run.Given as goal

abbrev pub invariant-loop-k : goal.invariant-loop-k
invariant-loop-k l = l.pages.items ≡ l.fn.pages.items ++ pages_from l.extent.start l.k
