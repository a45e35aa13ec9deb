-- What the calls that write a record leave of the journal and of what is kept back. This project's own.
use Rattle.std.specs.Prelude.{◌≡◌, ◌⊎◌, ℕ, ◌+◌, ◌<◌, ◌≤◌, true, false, List, [], ◌∷◌, ◌++◌, length, Some}
use Rattle.opfs_commit.specs.Seen.{Committing, emptied, has_room, with_back, with_own}
use Rattle.opfs_codec.specs.Charges.{charge}
use Rattle.opfs_codec.specs.Fields.{HasFewExtents}
use Rattle.opfs_codec.specs.Spelling.{spelling, IsChange}
use Rattle.opfs_codec.specs.declared.change.Change.{Change}
use Rattle.opfs_codec.specs.declared.change.Format.TheVariants.{New}
use Rattle.opfs_image.specs.Agreeing.{built_in}
use Rattle.opfs_journal.specs.Calls.{IsStored, IsStopped}
use Rattle.opfs_journal.specs.Format.{Stored}
use Rattle.opfs_journal.specs.Seen.{one_record}
use Rattle.opfs_outside.specs.declared.disk.Disk.{Ghosts as DiskWords}
use Rattle.opfs_records.specs.Replay.Applying.{tried, rows_of}
use Rattle.opfs_records.specs.Replay.Built.{Built, IsSound}
use Rattle.opfs_records.specs.Replay.Sums.{charge_of, persistent_in}
use Rattle.opfs_shed.specs.Buckets.{Storage}
use Rattle.opfs_records.specs.Checkpoint.Written.{AreWritable, stored_rows}
use Rattle.opfs_tree.specs.Rows.{Rows}

-- The records were written, with all that was kept back.
pub record IsCommitted {D : Type 0} (w : DiskWords D) (next : Stored) (old new : Committing D) : Type 0 where
  pub journal : IsStored w next old.journal new.journal
  pub none : new.back ≡ emptied old.back

-- The disk failed in that, and what was kept back still is.
pub record IsHalted {D : Type 0} (w : DiskWords D) (next : Stored) (old new : Committing D) : Type 0 where
  pub journal : IsStopped w next old.journal new.journal
  pub same : new.back ≡ old.back

-- A record of what is kept back and of one change more has room: they are not too long, and it ends with the next gate within
-- the area; or it has none.
pub record HasRecordRoom {D : Type 0} (own : Change) (k : Committing D) : Type 0 where
  pub short : has_room k.back (charge own) ≡ true
  pub within : k.journal.tail + length (k.back.bytes ++ spelling New own) + 6 ≤ k.journal.areas.bytes

abbrev pub LacksRecordRoom : {D : Type 0} → Change → Committing D → Type 0
LacksRecordRoom own k = (has_room k.back (charge own) ≡ false) ⊎ (k.journal.areas.bytes < k.journal.tail + length (k.back.bytes ++ spelling New own) + 6)

-- The same of one of what is kept back alone.
pub record HasBackRoom {D : Type 0} (k : Committing D) : Type 0 where
  pub short : k.back.long ≡ false
  pub within : k.journal.tail + length k.back.bytes + 6 ≤ k.journal.areas.bytes

abbrev pub LacksBackRoom : {D : Type 0} → Committing D → Type 0
LacksBackRoom k = (k.back.long ≡ true) ⊎ (k.journal.areas.bytes < k.journal.tail + length k.back.bytes + 6)

-- A body has room in the place of all records.
pub record HasSnapshotRoom {D : Type 0} (body : List ℕ) (k : Committing D) : Type 0 where
  pub kept : length body ≤ k.back.room
  pub within : length body + 7 ≤ k.journal.areas.bytes

-- A record that a body of this kind makes alone was written in the place of all.
pub record IsReplaced {D : Type 0} (w : DiskWords D) (Kind : List ℕ → Type 0) (old new : Committing D) : Type 0 where
  pub body : List ℕ
  pub kind : Kind body
  pub room : HasSnapshotRoom body old
  pub committed : IsCommitted w (one_record old.journal.format body) old new

-- The disk failed in that.
pub record IsNotReplaced {D : Type 0} (w : DiskWords D) (Kind : List ℕ → Type 0) (old new : Committing D) : Type 0 where
  pub body : List ℕ
  pub kind : Kind body
  pub room : HasSnapshotRoom body old
  pub halted : IsHalted w (one_record old.journal.format body) old new

-- A body builds from nothing what a change makes of these rows as they are stored and of these persistent units.
abbrev pub BuildsAfter : Built → Change → List ℕ → Type 0
BuildsAfter b own body = (size : ℕ) (next : Built) → IsSound size b.rows → tried New size b own ≡ Some next → rows_of New size (body ∷ []) ≡ Some next

-- A body builds these rows from nothing, and these persistent units.
abbrev pub BuildsAll : Built → List ℕ → Type 0
BuildsAll b body = (size : ℕ) → IsSound size b.rows → rows_of New size (body ∷ []) ≡ Some b

-- A tree's rows as they are stored, and the persistent units of a shed.
abbrev pub stored_in : Rows → Storage → Built
stored_in rows shed = built_in (stored_rows rows) shed

-- Rows and units whose snapshot after a change has room: they have spellings that are read, and so has the change; and the
-- charge of what is built fits so many bytes.
pub record HasRoomAfter (size most : ℕ) (rows : Rows) (shed : Storage) (own : Change) : Type 0 where
  pub next : Built
  pub sound : IsSound size (stored_rows rows)
  pub found : tried New size (stored_in rows shed) own ≡ Some next
  pub writable : AreWritable rows (persistent_in shed.buckets)
  pub again : IsChange New own
  pub fits : charge_of New next ≤ most

pub record HasRoomFor (size most : ℕ) (rows : Rows) (shed : Storage) : Type 0 where
  pub sound : IsSound size (stored_rows rows)
  pub writable : AreWritable rows (persistent_in shed.buckets)
  pub fits : charge_of New (stored_in rows shed) ≤ most

-- What a commit lets the journal keep: one record more, which has room, or a snapshot of this kind in the place of all, for this
-- reason.
pub record IsOneMore (Room : Type 0) (more next : Stored) : Type 0 where
  pub room : Room
  pub same : next ≡ more

pub record IsSnapshot {D : Type 0} (Kind : List ℕ → Type 0) (Reason : Type 0) (k : Committing D) (next : Stored) : Type 0 where
  pub body : List ℕ
  pub kind : Kind body
  pub room : HasSnapshotRoom body k
  pub reason : Reason
  pub same : next ≡ one_record k.journal.format body

-- A commit of a change: what is kept back and the change in one record more; or, only where that has no room, a snapshot after
-- the change alone. A content is meant here whose extents are no more than its blocks.
abbrev pub IsNext : {D : Type 0} → Built → Change → Committing D → Stored → Type 0
IsNext b own k next = IsOneMore (HasRecordRoom own k) (with_own k own) next ⊎ IsSnapshot (BuildsAfter b own) (HasFewExtents own → LacksRecordRoom own k) k next

-- And a commit of what is kept back alone.
abbrev pub IsNextAlone : {D : Type 0} → Built → Committing D → Stored → Type 0
IsNextAlone b k next = IsOneMore (HasBackRoom k) (with_back k) next ⊎ IsSnapshot (BuildsAll b) (LacksBackRoom k) k next

-- Records of this kind were written.
pub record IsAnyOf {D : Type 0} (w : DiskWords D) (Kind : Stored → Type 0) (old new : Committing D) : Type 0 where
  pub next : Stored
  pub kind : Kind next
  pub committed : IsCommitted w next old new

-- The disk failed in that.
pub record IsNoneOf {D : Type 0} (w : DiskWords D) (Kind : Stored → Type 0) (old new : Committing D) : Type 0 where
  pub next : Stored
  pub kind : Kind next
  pub halted : IsHalted w next old new
