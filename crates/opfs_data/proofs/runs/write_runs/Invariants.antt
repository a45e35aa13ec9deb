use Rattle.std.proofs.Common.{◌≡◌, ◌≤◌, List, ℕ, length, drop}
use Rattle.opfs_outside.specs.Bytes.{Same}
use Rattle.opfs_data.specs.Calls.{Writes}
use Rattle.opfs_data.specs.Places.{room_of, bytes_of, Aside, AreApart}
use Rattle.opfs_data.proofs.runs.write_runs.Given as goal

abbrev pub invariant-loop-extent : goal.invariant-loop-extent
invariant-loop-extent g l = record {
  room : length l.rest ≤ room_of (drop l.extent-index l.extents);
  sure : l.journal.in_doubt ≡ l.fn.journal.in_doubt;
  writes : Writes g.D.Disk l.base l.extents l.fn.journal l.journal;
  apart : AreApart l.extents → AreApart (drop l.extent-index l.extents);
  written : g.D.Disk.tells → AreApart l.extents → (d : List ℕ) → Same (Aside l.base (drop l.extent-index l.extents)) d (g.D.Disk.content l.journal.disk)
      → bytes_of d l.base (drop l.extent-index l.extents) (length l.rest) ≡ l.rest → bytes_of d l.base l.extents (length l.bytes) ≡ l.bytes;
}
