-- What the calls that write a record leave of a journal. This project's own.
use Rattle.std.specs.Prelude.{◌≡◌, ℕ, ◌≤◌, true, false, List, Some}
use Rattle.opfs_outside.specs.Bytes.{Same}
use Rattle.opfs_outside.specs.Moments.{Elapses}
use Rattle.opfs_outside.specs.declared.disk.Disk.{Ghosts as DiskWords}
use Rattle.opfs_journal.specs.Clauses.{Outside, After, OneOf}
use Rattle.opfs_journal.specs.Format.{Stored, records_of}
use Rattle.opfs_journal.specs.Seen.{Seen, Stays, kept}

-- An image that a crash may leave now.
abbrev pub MayBe : {D : Type 0} → DiskWords D → Seen D → List ℕ → Type 0
MayBe w j c = w.since j.disk (w.moment j.disk) c

-- Each of them has the journal's records.
abbrev pub AreKept : {D : Type 0} → DiskWords D → Seen D → Type 0
AreKept w j = (c : List ℕ) → MayBe w j c → records_of j.areas c ≡ Some (kept j)

-- Each image since the start has the records of before, or these in their place over the bytes of the content.
pub record IsOneOf {D : Type 0} (w : DiskWords D) (next : Stored) (old new : Seen D) : Type 0 where
  pub outside : Same (Outside old.areas) (w.content new.disk) (w.content old.disk)
  pub time : Elapses w.moment w.since old.disk new.disk
  pub moments : (c : List ℕ) → w.since new.disk (w.moment old.disk) c → OneOf (records_of old.areas) (MayBe w old) (Outside old.areas) (kept old) next (w.content old.disk) c

-- And at the end each has these.
pub record IsDurable {D : Type 0} (w : DiskWords D) (next : Stored) (old new : Seen D) : Type 0 where
  pub written : IsOneOf w next old new
  pub records : kept new ≡ next
  pub durable : (c : List ℕ) → MayBe w new c → After (records_of old.areas) next (w.content old.disk) (Outside old.areas) c

-- Or the journal keeps its records. A gate may be in doubt, and then these are what the disk may hold.
pub record IsTorn {D : Type 0} (w : DiskWords D) (next : Stored) (old new : Seen D) : Type 0 where
  pub written : IsOneOf w next old new
  pub records : kept new ≡ kept old
  pub doubt : new.in_doubt ≡ true → new.doubt ≡ next
  pub known : new.in_doubt ≡ false → (c : List ℕ) → MayBe w new c → records_of old.areas c ≡ Some (kept old)
  pub behind : new.in_doubt ≡ true → (c : List ℕ) → MayBe w new c → Same (Outside old.areas) c (w.content new.disk)

-- The journal has these records durably, and no gate is in doubt.
pub record IsStored {D : Type 0} (w : DiskWords D) (next : Stored) (old new : Seen D) : Type 0 where
  pub stays : Stays w.size old new
  pub format : new.format ≡ next.format
  pub sure : new.in_doubt ≡ false
  pub later : w.faults old.disk ≤ w.faults new.disk
  pub told : w.tells → IsDurable w next old new

-- The disk failed: the journal keeps what it had.
pub record IsStopped {D : Type 0} (w : DiskWords D) (next : Stored) (old new : Seen D) : Type 0 where
  pub stays : Stays w.size old new
  pub tail : new.tail ≡ old.tail
  pub format : new.format ≡ old.format
  pub later : w.faults old.disk ≤ w.faults new.disk
  pub told : w.tells → IsTorn w next old new

-- What a call that ends a doubt leaves where there was one: each image since the start has the records of before over the
-- bytes of an image of then, or those in doubt over the bytes of the content.
pub record IsShut {D : Type 0} (w : DiskWords D) (old new : Seen D) : Type 0 where
  pub written : IsOneOf w old.doubt old new
  pub records : kept new ≡ kept old

-- At its end no gate is in doubt, and each image has the journal's records.
pub record IsSettled {D : Type 0} (w : DiskWords D) (old new : Seen D) : Type 0 where
  pub stays : Stays w.size old new
  pub tail : new.tail ≡ old.tail
  pub format : new.format ≡ old.format
  pub none : old.in_doubt ≡ false → new ≡ old
  pub sure : new.in_doubt ≡ false
  pub later : w.faults old.disk ≤ w.faults new.disk
  pub told : w.tells → old.in_doubt ≡ true → IsShut w old new
  pub durable : w.tells → (c : List ℕ) → MayBe w new c → records_of old.areas c ≡ Some (kept old)

-- The disk failed: the gate stays in doubt.
pub record IsUnsettled {D : Type 0} (w : DiskWords D) (old new : Seen D) : Type 0 where
  pub stays : Stays w.size old new
  pub tail : new.tail ≡ old.tail
  pub format : new.format ≡ old.format
  pub was : old.in_doubt ≡ true
  pub unsure : new.in_doubt ≡ true
  pub later : w.faults old.disk ≤ w.faults new.disk
  pub told : w.tells → IsShut w old new
  pub doubt : w.tells → new.doubt ≡ old.doubt
  pub behind : w.tells → (c : List ℕ) → MayBe w new c → Same (Outside old.areas) c (w.content new.disk)
