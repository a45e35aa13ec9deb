-- What records that are to be written make of the map, and what else a call may do to the disk. This project's own.
use Rattle.std.specs.Prelude.{◌≡◌, ℕ, ◌+◌, ◌≤◌, false, List, [], ◌∷◌, ◌++◌, fold, Some}
use Rattle.opfs_base.specs.Texts.{Text}
use Rattle.opfs_base.specs.declared.extents.Extent.{Extent}
use Rattle.opfs_codec.specs.Spelling.{IsChange}
use Rattle.opfs_codec.specs.declared.change.Format.TheVariants.{New}
use Rattle.opfs_codec.specs.declared.change.Change.{Change as Spelled}
use Rattle.opfs_codec.specs.declared.change.Change.TheVariants.{MakeRoot, MakeDir, MakeFile, Remove, Content, Persist, Evict}
use Rattle.opfs_commit.specs.Images.{Account, AreImages}
use Rattle.opfs_commit.specs.Seen.{Committing, emptied}
use Rattle.opfs_commit.specs.Shown.{IsReadAs}
use Rattle.opfs_data.specs.Calls.{Writes}
use Rattle.opfs_data.specs.Places.{Aside, bytes_of}
use Rattle.opfs_image.specs.Agreeing.{IsJournalOf, IsImageOf}
use Rattle.opfs_image.specs.Filling.{Names, filled}
use Rattle.opfs_image.specs.Superblock.{area_bytes, data_base, limits_by}
use Rattle.opfs_image.specs.declared.geometry.Geometry.{Geometry}
use Rattle.opfs_journal.specs.Format.{Stored}
use Rattle.opfs_journal.specs.Seen.{Seen}
use Rattle.opfs_machine.specs.Changes.{Change, make_root, make_directory, make_file, remove, content, persist, evict, changed, durable, is_content}
use Rattle.opfs_machine.specs.Openings.{Opening}
use Rattle.opfs_outside.specs.declared.disk.Disk.{Ghosts as DiskWords}
use Rattle.opfs_records.specs.Replay.Applying.{tried, rows_of}
use Rattle.opfs_records.specs.Replay.Built.{Built}
use Rattle.opfs_records.specs.Replay.Sums.{charge_of}

-- The records build rows that hold, in the content, all that was told with these changes.
pub record IsToStore {D : Type 0} (w : DiskWords D) (a : Account) (own : List Change) (next : Stored) (built : Built) (j : Seen D) : Type 0 where
  pub reads : IsReadAs a.geometry next built
  pub bytes : filled (data_base a.geometry) (w.content j.disk) built ≡ durable a.opening (a.told ++ own)

-- A change that is kept back, as it is spelled: it has a spelling that is read, it can be applied to the present rows and
-- makes this of them, it makes the same of what they hold in any image, and it is no content.
pub record IsKept (a : Account) (spelled : Spelled) (change : Change) (built : Built) : Type 0 where
  pub again : IsChange New spelled
  pub found : tried New a.geometry.blocks a.rows spelled ≡ Some built
  pub makes : (base : ℕ) (c : List ℕ) → filled base c built ≡ changed (filled base c a.rows) change
  pub quiet : is_content change ≡ false

-- These records are to be written: no gate is in doubt.
pub record IsReadyFor {D : Type 0} (w : DiskWords D) (a : Account) (own : List Change) (next : Stored) (built : Built) (k : Committing D) : Type 0 where
  pub images : AreImages w a k
  pub settled : k.journal.in_doubt ≡ false
  pub to_store : IsToStore w a own next built k.journal

-- A change that is spelled so makes this of the present rows, and the same of what they hold in the content; and its charge
-- fits an area with a record's 7 bytes.
pub record IsOwn {D : Type 0} (w : DiskWords D) (a : Account) (spelled : Spelled) (change : Change) (built : Built) (j : Seen D) : Type 0 where
  pub again : IsChange New spelled
  pub found : tried New a.geometry.blocks a.rows spelled ≡ Some built
  pub fits : charge_of New built + 7 ≤ area_bytes a.geometry
  pub makes : filled (data_base a.geometry) (w.content j.disk) built ≡ changed (filled (data_base a.geometry) (w.content j.disk) a.rows) change

-- A body builds this from nothing, which holds what these changes make of what the present rows hold in the content.
pub record IsWhole {D : Type 0} (w : DiskWords D) (a : Account) (own : List Change) (body : List ℕ) (built : Built) (j : Seen D) : Type 0 where
  pub builds : rows_of New a.geometry.blocks (body ∷ []) ≡ Some built
  pub fits : charge_of New built + 7 ≤ area_bytes a.geometry
  pub makes : filled (data_base a.geometry) (w.content j.disk) built ≡ fold changed (filled (data_base a.geometry) (w.content j.disk) a.rows) own

-- A run begins with an image that was recovered: nothing is told, and nothing is kept back.
abbrev pub begun_with : Opening → Geometry → Built → Account
begun_with o g built = record { opening = o; geometry = g; told = []; doubted = []; recorded = built; rows = built }

pub record IsBegun {D : Type 0} (w : DiskWords D) (o : Opening) (g : Geometry) (built : Built) (recovered : Seen D) (k : Committing D) : Type 0 where
  pub limits : o.limits ≡ limits_by g
  pub journal : IsJournalOf w.size g recovered
  pub image : IsImageOf w.content w.moment w.since g built recovered
  pub stored : o.stored ≡ filled (data_base g) (w.content recovered.disk) built
  pub same : k.journal ≡ record recovered { spare = k.journal.spare }
  pub none : k.back ≡ emptied k.back

-- Pages are written aside of what the records name.
pub record AreBeside {D : Type 0} (w : DiskWords D) (a : Account) (extents : List Extent) (old new : Seen D) : Type 0 where
  pub aside : (i : ℕ) → Names (data_base a.geometry) a.recorded i → Aside (data_base a.geometry) extents i
  pub settled : old.in_doubt ≡ false
  pub writes : Writes w (data_base a.geometry) extents old new

-- A change as it is told, with these bytes where it is a content; and the bytes that an image has in a content's blocks.
unfoldable pub told_as : Text → Spelled → Change
told_as bytes (MakeRoot unit) = make_root unit
told_as bytes (MakeDir unit path) = make_directory (unit, path)
told_as bytes (MakeFile unit path stamp) = make_file (unit, path) stamp
told_as bytes (Remove unit path) = remove (unit, path)
told_as bytes (Content unit path stamp len extents) = content (unit, path) stamp bytes
told_as bytes (Persist unit) = persist unit
told_as bytes (Evict unit) = evict unit

unfoldable pub new_bytes : ℕ → List ℕ → Spelled → Text
new_bytes base c (Content unit path stamp len extents) = bytes_of c base extents len
new_bytes base c change = []
