use Rattle.std.proofs.Common.{◌≤◌, drop}
use Rattle.opfs_data.specs.Places.{room_of, bytes_of}
use Rattle.opfs_dump.specs.Dumping.Pieces.{digits_text}
use Rattle.opfs_dump.specs.Dumping.Putting.{DumpsSoFar}
use Rattle.opfs_dump.proofs.dumping.files.put_runs.Given as goal

abbrev pub invariant-loop-extent : goal.invariant-loop-extent
invariant-loop-extent g l = record {
  room : l.left ≤ room_of (drop l.extent-index l.extents);
  so_far : DumpsSoFar g.D.Disk g.K.Sink l.fn.journal l.journal l.fn.sink l.sink (λ c. digits_text (bytes_of c l.base l.extents l.len)) (λ c. digits_text (bytes_of c l.base (drop l.extent-index l.extents) l.left));
}
