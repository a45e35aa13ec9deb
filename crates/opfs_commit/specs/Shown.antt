-- What an image of the disk shows of the changes that were told. This project's own.
use Rattle.std.specs.Prelude.{◌≡◌, ℕ, ◌+◌, ◌≤◌, ◌⊎◌, List, ◌++◌, length, Some, Ok}
use Rattle.opfs_codec.specs.declared.change.Format.TheVariants.{New}
use Rattle.opfs_image.specs.Filling.{Stands, filled}
use Rattle.opfs_image.specs.Superblock.{area_bytes, data_base, geometry_of, limits_by}
use Rattle.opfs_image.specs.declared.geometry.Geometry.{Geometry}
use Rattle.opfs_journal.specs.Format.{Stored}
use Rattle.opfs_machine.specs.Changes.{Change, durable}
use Rattle.opfs_machine.specs.Openings.{Opening, Map}
use Rattle.opfs_outside.specs.declared.disk.Disk.{Ghosts as DiskWords}
use Rattle.opfs_records.specs.Replay.Applying.{rows_of}
use Rattle.opfs_records.specs.Replay.Built.{Built}
use Rattle.opfs_records.specs.Replay.Sums.{charge_of}

-- The image has the sizes of an opening, and its quota.
pub record HasSizes (o : Opening) (c : List ℕ) : Type 0 where
  pub geometry : Geometry
  pub found : geometry_of c ≡ Ok geometry
  pub limits : limits_by geometry ≡ o.limits

-- The image stands for what is stored after a front of these changes, with so many of them at least, and has the opening's
-- sizes.
pub record IsShown (o : Opening) (least : ℕ) (all : List Change) (c : List ℕ) : Type 0 where
  pub shown : List Change
  pub rest : List Change
  pub split : shown ++ rest ≡ all
  pub enough : least ≤ length shown
  pub stands : Stands c (durable o shown)
  pub sizes : HasSizes o c

-- The records are of format 2, and build this, whose charge fits an area with a record's 7 bytes.
pub record IsReadAs (g : Geometry) (stored : Stored) (b : Built) : Type 0 where
  pub format : stored.format ≡ 2
  pub builds : rows_of New g.blocks stored.records ≡ Some b
  pub fits : charge_of New b + 7 ≤ area_bytes g

-- The image has this geometry, and the rows hold this map there, whichever records it has.
pub record Holds (g : Geometry) (b : Built) (m : Map) (c : List ℕ) : Type 0 where
  pub geometry : geometry_of c ≡ Ok g
  pub bytes : filled (data_base g) c b ≡ m

-- Each image that a crash may have left since a disk was so shows a front of these changes.
abbrev pub ShowsSince : {D : Type 0} → DiskWords D → Opening → ℕ → List Change → D → D → Type 0
ShowsSince w o least all old new = (c : List ℕ) → w.since new (w.moment old) c → IsShown o least all c

-- Each shows a front of these changes, or one of the others.
abbrev pub ShowsEither : {D : Type 0} → DiskWords D → Opening → ℕ → List Change → List Change → D → D → Type 0
ShowsEither w o least all others old new = (c : List ℕ) → w.since new (w.moment old) c → IsShown o least all c ⊎ IsShown o least others c
