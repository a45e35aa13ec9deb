use Rattle.std.proofs.Common.{◌≡◌, ◌<◌, ◌≤◌, ◌+◌, ◌-◌, ◌/◌, ℕ, List, length}
use Rattle.opfs_data.specs.Calls.{Reads}
use Rattle.opfs_data.specs.Rows.{pages_at}
use Rattle.opfs_pages.specs.Copies.{IsCopy, IsPageOf, AreHeld}
use Rattle.opfs_pages.proofs.Parts.{IsReadTo}
use Rattle.opfs_pages.proofs.wide.read_bytes.Given as goal

abbrev pub invariant-loop-done : goal.invariant-loop-done
invariant-loop-done g l = record {
  within : l.done ≤ length l.into;
  size : length l.into ≡ length l.fn.into;
  buffer : length l.buffer ≡ 4096;
  reads : Reads g.D.Disk l.fn.journal l.journal;
  read : g.D.Disk.tells → (bytes : List ℕ) → IsCopy bytes l.source.work.now → AreHeld bytes l.source.work.now (g.D.Disk.content l.fn.journal.disk) l.source.base (pages_at l.source.agent l.source.row l.source.swap.now) → IsReadTo bytes l.at l.done l.into;
  last : g.D.Disk.tells → (bytes : List ℕ) → IsCopy bytes l.source.work.now → AreHeld bytes l.source.work.now (g.D.Disk.content l.fn.journal.disk) l.source.base (pages_at l.source.agent l.source.row l.source.swap.now)
      → 0 < l.done → IsPageOf bytes ((l.at + l.done - 1) / 4096) l.buffer;
}

abbrev pub decreases-loop-done : goal.decreases-loop-done
decreases-loop-done g l = length l.into - l.done
