-- What calls that only read a journal's disk, or write into runs of blocks, leave of the journal. This project's own.
use Rattle.std.specs.Prelude.{◌≡◌, ℕ, ◌≤◌, List}
use Rattle.opfs_base.specs.declared.extents.Extent.{Extent}
use Rattle.opfs_outside.specs.Bytes.{Same}
use Rattle.opfs_outside.specs.Moments.{Elapses}
use Rattle.opfs_outside.specs.declared.disk.Disk.{Ghosts as DiskWords}
use Rattle.opfs_journal.specs.Clauses.{Outside, Before}
use Rattle.opfs_journal.specs.Format.{records_of}
use Rattle.opfs_journal.specs.Seen.{Seen, Stays, kept}
use Rattle.opfs_journal.specs.declared.areas.Areas.{Areas}
use Rattle.opfs_data.specs.Places.{Aside}

-- the places outside of both areas and of the runs
abbrev pub OutsideRuns : Areas → ℕ → List Extent → ℕ → Type 0
OutsideRuns a base extents i = Outside a i × Aside base extents i

-- the disk has the same content, and no image that it could not have had before
pub record IsRead {D : Type 0} (w : DiskWords D) (old new : Seen D) : Type 0 where
  pub records : new.records ≡ old.records
  pub doubt : new.doubt ≡ old.doubt
  pub same : w.content new.disk ≡ w.content old.disk
  pub time : Elapses w.moment w.since old.disk new.disk
  pub moments : (c : List ℕ) → w.since new.disk (w.moment old.disk) c → w.since old.disk (w.moment old.disk) c

-- the journal is as it was
pub record Reads {D : Type 0} (w : DiskWords D) (old new : Seen D) : Type 0 where
  pub stays : Stays w.size old new
  pub tail : new.tail ≡ old.tail
  pub format : new.format ≡ old.format
  pub in_doubt : new.in_doubt ≡ old.in_doubt
  pub later : w.faults old.disk ≤ w.faults new.disk
  pub told : w.tells → IsRead w old new

-- The content outside of the runs stays. Each image since the start has the journal's records, and outside of the areas and
-- the runs the bytes of an image at the start.
pub record IsWritten {D : Type 0} (w : DiskWords D) (base : ℕ) (extents : List Extent) (old new : Seen D) : Type 0 where
  pub records : new.records ≡ old.records
  pub elsewhere : Same (Aside base extents) (w.content new.disk) (w.content old.disk)
  pub time : Elapses w.moment w.since old.disk new.disk
  pub moments : (c : List ℕ) → w.since new.disk (w.moment old.disk) c
      → Before (records_of old.areas) (kept old) (w.since old.disk (w.moment old.disk)) (OutsideRuns old.areas base extents) c

-- the journal is as it was but for bytes of the runs
pub record Writes {D : Type 0} (w : DiskWords D) (base : ℕ) (extents : List Extent) (old new : Seen D) : Type 0 where
  pub stays : Stays w.size old new
  pub tail : new.tail ≡ old.tail
  pub format : new.format ≡ old.format
  pub in_doubt : new.in_doubt ≡ old.in_doubt
  pub later : w.faults old.disk ≤ w.faults new.disk
  pub told : w.tells → IsWritten w base extents old new
