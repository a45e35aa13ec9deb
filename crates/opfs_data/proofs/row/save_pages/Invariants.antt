use Rattle.std.proofs.Common.{take, List, ℕ}
use Rattle.opfs_data.specs.Calls.{Reads}
use Rattle.opfs_data.specs.Writes.{writes_of}
use Rattle.opfs_data.specs.Pages.{AreSaved, AreNow}
use Rattle.opfs_data.proofs.row.save_pages.Given as goal

abbrev pub invariant-loop-run : goal.invariant-loop-run
invariant-loop-run g l = record {
  reads : Reads g.D.Disk l.fn.journal l.journal;
  saved : (own given : List ℕ) → AreSaved l.saved.items l.pages (writes_of own given (take l.run-index l.runs));
  now : g.D.Disk.tells → AreNow (g.D.Disk.content l.fn.journal.disk) l.base l.pages l.saved.items;
}
