use Rattle.std.proofs.Common.{◌≡◌, ◌≤◌, ◌<◌, ◌+◌, ◌-◌, ◌*◌, ℕ, List, length}
use Rattle.opfs_data.specs.Calls.{Reads}
use Rattle.opfs_data.specs.Pages.{page_of}
use Rattle.opfs_data.specs.Rows.{page_at}
use Rattle.opfs_pages.specs.Copies.{IsBegun}
use Rattle.opfs_pages.proofs.Parts.{IsReadTo}
use Rattle.opfs_pages.proofs.wide.read_stored.Given as goal

abbrev pub invariant-loop-done : goal.invariant-loop-done
invariant-loop-done g l = record {
  within : l.done ≤ length l.into;
  size : length l.into ≡ length l.fn.into;
  buffer : length l.buffer ≡ 4096;
  reads : Reads g.D.Disk l.fn.journal l.journal;
  read : g.D.Disk.tells → (bytes : List ℕ) → l.at + length l.fn.into ≤ length bytes → ((i : ℕ) → 4096 * i < length bytes → IsBegun bytes i (page_of (g.D.Disk.content l.fn.journal.disk) l.stored.base (page_at l.stored.agent l.stored.row i l.stored.swap.now))) → IsReadTo bytes l.at l.done l.into;
}

abbrev pub decreases-loop-done : goal.decreases-loop-done
decreases-loop-done g l = length l.into - l.done
