-- What an image that was recovered keeps. This project's own.
use Rattle.std.specs.Prelude.{◌≡◌, ℕ, ◌+◌, ◌≤◌, Bool, false, true, List, Some, Ok}
use Rattle.opfs_base.specs.Texts.{Text}
use Rattle.opfs_codec.specs.declared.change.Format.TheVariants.{New}
use Rattle.opfs_journal.specs.Format.{records_of}
use Rattle.opfs_journal.specs.Seen.{Seen, kept}
use Rattle.opfs_records.specs.Replay.Built.{Built, IsSound, used_by}
use Rattle.opfs_records.specs.Replay.Sums.{charge_of, usage_in, persistent_in}
use Rattle.opfs_records.specs.Checkpoint.Written.{AreWritable}
use Rattle.opfs_shed.specs.Buckets.{Storage, bucket_at}
use Rattle.opfs_tree.specs.Rows.{Rows}
use Rattle.opfs_image.specs.Reading.{read_as}
use Rattle.opfs_image.specs.Superblock.{area_bytes, areas_of, image_size, is_in_range}
use Rattle.opfs_image.specs.declared.geometry.Geometry.{Geometry}

-- the rows of a tree with the persistent units of a shed
abbrev pub built_in : Rows → Storage → Built
built_in rows shed = record { rows = rows; persistent = persistent_in shed.buckets }

-- What was built agrees with a geometry, whatever the disk tells: each file has its blocks, no block is named twice, and
-- every lock is open; all has a spelling in format 2; the used blocks are those of the files; the quota and the usages
-- are the geometry's and the files'; and the charge is that of what is built.
pub record IsRebuilt (g : Geometry) (rows : Rows) (shed : Storage) (used : List Bool) (charge : ℕ) : Type 0 where
  pub sound : IsSound g.blocks rows
  pub writable : AreWritable rows (persistent_in shed.buckets)
  pub used_are : used ≡ used_by g.blocks rows
  pub quota : shed.quota ≡ g.quota
  pub usage : (unit : Text) → (bucket_at shed.buckets unit).usage ≡ usage_in unit rows
  pub charge_is : charge ≡ charge_of New (built_in rows shed)

-- And the numbers are in range, and the charge fits an area.
pub record Agrees (g : Geometry) (rows : Rows) (shed : Storage) (used : List Bool) (charge : ℕ) : Type 0 where
  pub range : is_in_range g ≡ true
  pub parts : IsRebuilt g rows shed used charge
  pub fits : charge + 7 ≤ area_bytes g

-- And so does the journal: its areas are the geometry's, its disk has the image's length, and no gate is in doubt.
pub record IsJournalOf {D : Type 0} (size : D → ℕ) (g : Geometry) (journal : Seen D) : Type 0 where
  pub areas : journal.areas ≡ areas_of g
  pub length : image_size g ≤ size journal.disk
  pub settled : journal.in_doubt ≡ false

-- Where the disk tells, its content is its one image, and reads as this.
pub record IsImageOf {D : Type 0} (content : D → List ℕ) (moment : D → ℕ) (since : D → ℕ → List ℕ → Type 0) (g : Geometry) (b : Built) (journal : Seen D) : Type 0 where
  pub one_image : (c : List ℕ) → since journal.disk (moment journal.disk) c → c ≡ content journal.disk
  pub reads : read_as New New (content journal.disk) ≡ Ok (record { geometry = g; built = b })
  pub records : records_of (areas_of g) (content journal.disk) ≡ Some (kept journal)
