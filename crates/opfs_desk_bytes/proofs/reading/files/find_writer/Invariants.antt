use Rattle.std.proofs.Common.{◌≡◌, length}
use Rattle.opfs_base.specs.Places.{place_of}
use Rattle.opfs_desk_bytes.specs.Reading.Files.{has_writer}
use Rattle.opfs_desk_bytes.proofs.reading.Finding.{rest_rows, IsThere}
use Rattle.opfs_desk_bytes.proofs.reading.files.find_writer.Given as goal

abbrev pub invariant-loop-next : goal.invariant-loop-next
invariant-loop-next l = record {
  left : has_writer l.state.store.machine (place_of l.file) (rest_rows l.next l.swap) ≡ has_writer l.state.store.machine (place_of l.file) l.swap;
  there : IsThere l.next l.swap;
}

abbrev pub decreases-loop-next : goal.decreases-loop-next
decreases-loop-next l = length (rest_rows l.next l.swap)
