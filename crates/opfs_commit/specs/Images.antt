-- What is known of the images that a crash may leave while changes are committed. This project's own.
use Rattle.std.specs.Prelude.{◌≡◌, ℕ, ◌⊎◌, true, List, [], ◌∷◌, ◌++◌, length, Some}
use Rattle.opfs_commit.specs.Keeping.{AreKeptBack}
use Rattle.opfs_commit.specs.Seen.{Committing}
use Rattle.opfs_commit.specs.Shown.{IsReadAs, Holds}
use Rattle.opfs_image.specs.Superblock.{areas_of, limits_by}
use Rattle.opfs_image.specs.declared.geometry.Geometry.{Geometry}
use Rattle.opfs_journal.specs.Calls.{MayBe}
use Rattle.opfs_journal.specs.Format.{records_of}
use Rattle.opfs_journal.specs.Seen.{Seen, kept}
use Rattle.opfs_machine.specs.Changes.{Change, durable}
use Rattle.opfs_machine.specs.Openings.{Opening}
use Rattle.opfs_outside.specs.declared.disk.Disk.{Ghosts as DiskWords}
use Rattle.opfs_records.specs.Replay.Built.{Built}

-- What the images are spoken of by: what was stored when the run began, the image's geometry, the changes that were told
-- since, those that a gate in doubt may add, what the journal's records build, and the present rows, which have the changes
-- that are kept back besides.
pub record Account : Type 0 where
  pub opening : Opening
  pub geometry : Geometry
  pub told : List Change
  pub doubted : List Change
  pub recorded : Built
  pub rows : Built

-- The records in doubt build rows that hold all that was told with what is in doubt, in each image and in the content.
pub record IsDoubt {D : Type 0} (w : DiskWords D) (a : Account) (j : Seen D) : Type 0 where
  pub over : Built
  pub reads : IsReadAs a.geometry j.doubt over
  pub here : Holds a.geometry over (durable a.opening (a.told ++ a.doubted)) (w.content j.disk)
  pub holds : (c : List ℕ) → MayBe w j c → Holds a.geometry over (durable a.opening (a.told ++ a.doubted)) c

-- The opening's sizes are the geometry's. The journal's records build what holds all that was told but for what is kept
-- back, in each image and in the content, whichever records it has. Each image has the journal's records, or those in doubt.
pub record AreImages {D : Type 0} (w : DiskWords D) (a : Account) (k : Committing D) : Type 0 where
  pub acked : List Change
  pub later : List Change
  pub split : acked ++ later ≡ a.told
  pub limits : a.opening.limits ≡ limits_by a.geometry
  pub areas : k.journal.areas ≡ areas_of a.geometry
  pub reads : IsReadAs a.geometry (kept k.journal) a.recorded
  pub kept_back : AreKeptBack a.geometry.blocks k.back.bytes k.back.long later a.recorded a.rows
  pub count : length later ≡ k.back.count
  pub here : Holds a.geometry a.recorded (durable a.opening acked) (w.content k.journal.disk)
  pub holds : (c : List ℕ) → MayBe w k.journal c → Holds a.geometry a.recorded (durable a.opening acked) c
  pub one_of : (c : List ℕ) → MayBe w k.journal c
      → (records_of (areas_of a.geometry) c ≡ Some (kept k.journal)) ⊎ ((k.journal.in_doubt ≡ true) × (records_of (areas_of a.geometry) c ≡ Some k.journal.doubt))
  pub doubt : k.journal.in_doubt ≡ true → IsDoubt w a k.journal

-- What was told grew by these, which are durable, and nothing is kept back.
abbrev pub committed : Account → List Change → Built → Account
committed a own built = record a { told = a.told ++ own; doubted = []; recorded = built; rows = built }

-- These are in doubt.
abbrev pub doubting : Account → List Change → Account
doubting a own = record a { doubted = own }

-- One change more is kept back.
abbrev pub keeping : Account → Change → Built → Account
keeping a change built = record a { told = a.told ++ change ∷ []; rows = built }

-- Nothing is in doubt.
abbrev pub sure : Account → Account
sure a = doubting a []
