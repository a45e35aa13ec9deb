use Rattle.std.proofs.Common.{◌≡◌, ◌-◌, ◌≤◌, ◌++◌, length, take, drop}
use Rattle.opfs_data.specs.Calls.{Reads}
use Rattle.opfs_data.specs.Places.{room_of, bytes_of}
use Rattle.opfs_data.proofs.runs.read_runs.Given as goal

abbrev pub invariant-loop-extent : goal.invariant-loop-extent
invariant-loop-extent g l = record {
  within : l.from ≤ length l.into;
  room : length l.into - l.from ≤ room_of (drop l.extent-index l.extents);
  reads : Reads g.D.Disk l.fn.journal l.journal;
  read : g.D.Disk.tells → take l.from l.into ++ bytes_of (g.D.Disk.content l.fn.journal.disk) l.base (drop l.extent-index l.extents) (length l.into - l.from)
      ≡ bytes_of (g.D.Disk.content l.fn.journal.disk) l.base l.extents (length l.into);
}
