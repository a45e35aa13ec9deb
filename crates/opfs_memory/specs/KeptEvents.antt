-- What a disk in memory keeps of its calls.
use Rattle.std.specs.Prelude.{ℕ, ◌+◌, ◌≤◌, List, map}
use Rattle.opfs_outside.specs.Bytes.{window}
use Rattle.opfs_memory.specs.Drives.{Event, Idle, Wrote, Synced}
use Rattle.opfs_memory.specs.declared.mem_disk.Kept.{Kept}
use Rattle.opfs_memory.specs.declared.mem_disk.Kept.TheVariants.{Nothing, Write, Sync}

-- what a kept call did, given the bytes of all writes one after another
abbrev pub event_of : List ℕ → Kept → Event
event_of bytes Nothing = Idle
event_of bytes (Write at start len done) = Wrote at (window bytes start len) done
event_of bytes Sync = Synced

abbrev pub events : List ℕ → List Kept → List Event
events bytes log = map (event_of bytes) log

-- its bytes are among these, and its range is in the disk
abbrev pub IsInside : ℕ → ℕ → Kept → Type 0
IsInside n size Nothing = Unit {0}
IsInside n size (Write at start len done) = (start + len ≤ n) × (at + len ≤ size)
IsInside n size Sync = Unit {0}
