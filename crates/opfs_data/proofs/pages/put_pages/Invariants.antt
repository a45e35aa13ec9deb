use Rattle.std.proofs.Common.{◌≡◌, take}
use Rattle.std.specs.List.{AllByRecursion}
use Rattle.opfs_data.specs.Calls.{Writes}
use Rattle.opfs_data.specs.Writes.{writes_of}
use Rattle.opfs_data.specs.Pages.{block_bytes, runs_of}
use Rattle.opfs_data.proofs.pages.put_pages.Given as goal

abbrev pub invariant-loop-run : goal.invariant-loop-run
invariant-loop-run g l = record {
  sure : l.journal.in_doubt ≡ l.fn.journal.in_doubt;
  writes : Writes g.D.Disk l.base (runs_of (writes_of l.own l.given l.runs)) l.fn.journal l.journal;
  written : g.D.Disk.tells → AllByRecursion (λ w. block_bytes (g.D.Disk.content l.journal.disk) l.base w.block ≡ w.bytes) (writes_of l.own l.given (take l.run-index l.runs));
}
