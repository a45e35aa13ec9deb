use Rattle.std.proofs.Common.{List, ℕ, ◌++◌}
use Rattle.opfs_data.specs.Calls.{Reads}
use Rattle.opfs_data.specs.Writes.{PageWrite, run_pages, source_bytes}
use Rattle.opfs_data.specs.Pages.{AreSaved, AreNow}
use Rattle.opfs_data.proofs.row.save_run.Given as goal

abbrev pub invariant-loop-k : goal.invariant-loop-k
invariant-loop-k g l = record {
  reads : Reads g.D.Disk l.fn.journal l.journal;
  saved : (ws : List PageWrite) (own given : List ℕ) → AreSaved l.fn.saved.items l.pages ws
      → AreSaved l.saved.items l.pages (ws ++ run_pages (source_bytes own given l.run.source) l.run.page l.run.block l.run.from l.k);
  now : g.D.Disk.tells → AreNow (g.D.Disk.content l.fn.journal.disk) l.base l.pages l.fn.saved.items → AreNow (g.D.Disk.content l.fn.journal.disk) l.base l.pages l.saved.items;
}
