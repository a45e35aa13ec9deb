-- Open rows that grow. This project's own.
use Rattle.std.specs.Prelude.{◌≡◌, ℕ, ◌+◌, ◌-◌, ◌<◌, ◌≤◌, ◌^◌, Some}
use Rattle.opfs_base.specs.Blocks.{blocks}
use Rattle.opfs_base.specs.Places.{Place}
use Rattle.opfs_base.specs.Units.{origin_of}
use Rattle.opfs_locks.specs.Taking.{Lock, taken}
use Rattle.opfs_locks.specs.declared.Want.{Want}
use Rattle.opfs_machine.specs.declared.own.HandleOutline.{HandleOutline}
use Rattle.opfs_machine.specs.declared.own.StreamOutline.{StreamOutline}
use Rattle.opfs_machine.specs.declared.state.FileRow.{FileRow}
use Rattle.opfs_machine.specs.Agents.{open_stream, open_handle}
use Rattle.opfs_machine.specs.Contents.{in_lengths}
use Rattle.opfs_machine.specs.Rows.{file_at}
use Rattle.opfs_machine.specs.Rulings.{reserve_for}
use Rattle.opfs_machine.specs.Sums.{usage, pool}
use Rattle.opfs_state_rows.specs.Standing.Seen.{Machine}

-- A stream is open, and the pool has room for the blocks that a size takes.
pub record IsGrowing (m : Machine) (k n size : ℕ) : Type 0 where
  pub stream : StreamOutline
  pub is : open_stream in_lengths m k n ≡ Some stream
  pub room : pool in_lengths m + (reserve_for stream.reserve size - stream.reserve) ≤ m.limits.blocks

-- An access handle is open on the file at a place; the pool has room for the blocks that a size takes, and what its
-- origin uses once the file has a length is a number of 64 bits.
pub record IsWriting (m : Machine) (k n : ℕ) (place : Place) (length size : ℕ) : Type 0 where
  pub handle : HandleOutline
  pub is : open_handle in_lengths m k n ≡ Some handle
  pub same : handle.file ≡ place
  pub room : pool in_lengths m + (reserve_for handle.reserve size - handle.reserve) ≤ m.limits.blocks
  pub quota : (f : FileRow ℕ) → file_at m place ≡ Some f → usage in_lengths m (origin_of place.0) + blocks length < 2 ^ 64 + blocks f.present

-- A file is at a place, and its lock is given as asked.
pub record IsLockGiven (m : Machine) (place : Place) (w : Want) : Type 0 where
  pub file : FileRow ℕ
  pub there : file_at m place ≡ Some file
  pub lock : Lock
  pub gives : taken w file.lock ≡ Some lock
