use Rattle.std.proofs.Common.{◌≡◌, ℕ, ◌≤◌, ◌++◌, List, drop}
use Rattle.sha2.specs.Hashers.{Holds256}
use Rattle.opfs_data.specs.Calls.{Reads}
use Rattle.opfs_data.specs.Places.{room_of, bytes_of}
use Rattle.opfs_tools.proofs.digests.digest_of.Given as goal

abbrev pub invariant-loop-extent : goal.invariant-loop-extent
invariant-loop-extent g l = record {
  room : l.left ≤ room_of (drop l.extent-index l.extents);
  reads : Reads g.D.Disk l.fn.journal l.journal;
  held : g.D.Disk.tells → (done : List ℕ) × Holds256 l.hasher done × (done ++ bytes_of (g.D.Disk.content l.fn.journal.disk) l.base (drop l.extent-index l.extents) l.left
      ≡ bytes_of (g.D.Disk.content l.fn.journal.disk) l.base l.extents l.len);
}
