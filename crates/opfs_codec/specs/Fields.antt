-- What fits the fields of format 2. This project's own.
use Rattle.std.specs.Prelude.{◌<◌, ◌≤◌, ◌^◌, List, length}
use Rattle.std.specs.List.{AllByRecursion}
use Rattle.opfs_base.specs.Texts.{Text}
use Rattle.opfs_base.specs.Blocks.{blocks}
use Rattle.opfs_base.specs.Units.{origin_of, bucket_of}
use Rattle.opfs_codec.specs.declared.change.Change.{Change}
use Rattle.opfs_codec.specs.declared.change.Change.TheVariants.{MakeRoot, MakeDir, MakeFile, Remove, Content, Persist, Evict}
use Rattle.opfs_codec.specs.declared.change.ChangeRef.{ChangeRef}
use Rattle.opfs_codec.specs.declared.change.ChangeRef.TheVariants as borrowed

-- A borrowed change as the change that it is.
unfoldable pub plain : ChangeRef → Change
plain (borrowed.MakeRoot unit) = MakeRoot unit.now
plain (borrowed.MakeDir unit place) = MakeDir unit.now place.now
plain (borrowed.MakeFile unit place stamp) = MakeFile unit.now place.now stamp
plain (borrowed.Remove unit place) = Remove unit.now place.now
plain (borrowed.Content unit place stamp size es) = Content unit.now place.now stamp size es.now
plain (borrowed.Persist unit) = Persist unit.now
plain (borrowed.Evict unit) = Evict unit.now

-- The lengths of a unit's origin and bucket fit 2 bytes and 1.
abbrev pub UnitFits : Text → Type 0
UnitFits unit = (length (origin_of unit) < 2 ^ 16) × (length (bucket_of unit) < 2 ^ 8)

abbrev pub NameFits : Text → Type 0
NameFits name = length name < 2 ^ 8

-- The number of names fits 1 byte, and so does the length of each.
abbrev pub PathFits : List Text → Type 0
PathFits place = (length place < 2 ^ 8) × AllByRecursion NameFits place

-- The lengths and the numbers of items of a change fit their fields.
unfoldable pub Fits : Change → Type 0
Fits (MakeRoot unit) = UnitFits unit
Fits (MakeDir unit place) = UnitFits unit × PathFits place
Fits (MakeFile unit place stamp) = UnitFits unit × PathFits place
Fits (Remove unit place) = UnitFits unit × PathFits place
Fits (Content unit place stamp size es) = UnitFits unit × PathFits place × (length es < 2 ^ 32)
Fits (Persist unit) = UnitFits unit
Fits (Evict unit) = UnitFits unit

-- A content has no more extents than its bytes take blocks.
unfoldable pub HasFewExtents : Change → Type 0
HasFewExtents (Content unit place stamp size es) = length es ≤ blocks size
HasFewExtents _ = Unit {0}
