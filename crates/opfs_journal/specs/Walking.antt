-- What a reader of the areas finds.
use Rattle.std.specs.Prelude.{◌≡◌, ℕ, ◌+◌, ◌<◌, ◌≤◌, Bool, true, List, slice_index}
use Rattle.opfs_outside.specs.Moments.{Elapses}
use Rattle.opfs_outside.specs.declared.disk.Disk.{Ghosts as DiskWords}
use Rattle.opfs_journal.specs.Format.{is_open, number_at}
use Rattle.opfs_journal.specs.Reading.{Walks}

-- calls that changed no content, and left no image that could not have been left before
pub record Untouched {D : Type 0} (w : DiskWords D) (old new : D) : Type 0 where
  pub same : w.content new ≡ w.content old
  pub time : Elapses w.moment w.since old new
  pub moments : (c : List ℕ) → w.since new (w.moment old) c → w.since old (w.moment old) c

pub record OnlyRead {D : Type 0} (w : DiskWords D) (old new : D) : Type 0 where
  pub length : w.size new ≡ w.size old
  pub later : w.faults old ≤ w.faults new
  pub told : w.tells → Untouched w old new

-- the first gate of an area, the length and the generation byte
pub record IsFirst (c : List ℕ) (begin : ℕ) (open_there : Bool) (len generation : ℕ) : Type 0 where
  pub gate : open_there ≡ is_open c begin
  pub size : len ≡ number_at c (begin + 1)
  pub byte : generation ≡ slice_index c (begin + 5)

-- some records lead from one gate to another
pub record Leads (c : List ℕ) (from to : ℕ) : Type 0 where
  pub bodies : List (List ℕ)
  pub walks : Walks c from bodies to

-- an open gate whose record with the next gate passes the end
pub record IsBad (c : List ℕ) (from stop gate : ℕ) : Type 0 where
  pub leads : Leads c from gate
  pub opened : is_open c gate ≡ true
  pub inside : gate < stop
  pub past : stop < gate + 6 + number_at c (gate + 1)
