-- A disk in memory by its fields.
use Rattle.std.specs.Prelude.{◌≡◌, ◌≤◌, length, All}
use Rattle.std.specs.Vec.{vec_capacity}
use Rattle.opfs_memory.specs.Drives.{replayed, Drive}
use Rattle.opfs_memory.specs.KeptEvents.{events, IsInside}
use Rattle.opfs_memory.specs.declared.mem_disk.MemDisk.TheInside.{Inside}

abbrev pub drive_of : Inside → Drive
drive_of d = record {
  first = d.first.items;
  log = events d.bytes.items d.log.items;
  fails = d.fails.items;
  stop = d.stop;
  room_calls = d.room_calls;
  room_bytes = d.room_bytes;
  used = length d.bytes.items;
  calls = d.calls;
  faults = d.faults;
}

pub record IsInOrder (d : Inside) : Type 0 where
  pub content : d.content.items ≡ (replayed d.first.items (events d.bytes.items d.log.items)).content
  pub synced : d.synced.items ≡ (replayed d.first.items (events d.bytes.items d.log.items)).synced
  pub inside : All (IsInside (length d.bytes.items) (length d.first.items)) d.log.items
  pub calls : length d.log.items ≤ d.room_calls
  pub calls_fit : d.room_calls ≤ vec_capacity d.log
  pub bytes : length d.bytes.items ≤ d.room_bytes
  pub bytes_fit : d.room_bytes ≤ vec_capacity d.bytes
