-- The records of a key-value file, and the map that they stand for. This project's own.
use Rattle.std.specs.Prelude.{◌≡◌, ◌<◌, ◌≤◌, List, [], ◌∷◌, ◌++◌, length, fold, Option, Some, None, IfSome}
use Rattle.std.specs.Int.{w32, to_le_bytes}
use Rattle.std.specs.List.{AllByRecursion, flat_map}
use Rattle.opfs_base.specs.Texts.{Text}
use Rattle.opfs_kv.specs.Records.Maps.{Map, with_key, without_key}
use Rattle.opfs_kv.specs.declared.records.change.Change.{Change}

-- A key with its new value, or a key that is taken out.
abbrev pub Record : Type 0
Record = Change

-- A key has 1 to 255 bytes, and a value at most 65,536.
abbrev pub IsKey : Text → Type 0
IsKey key = (0 < length key) × (length key ≤ 255)

abbrev pub IsValue : Text → Type 0
IsValue value = length value ≤ 65536

abbrev pub IsRecord : Record → Type 0
IsRecord r = IsKey r.key × IfSome r.value IsValue

-- A record's bytes: 1, the key's length in 1 byte, the key, the value's length in 4 bytes, the value; or 2, the key's length, the
-- key.
abbrev pub spelled_by : Text → Option Text → Text
spelled_by key (Some value) = 1 ∷ length key ∷ (key ++ (to_le_bytes w32 (length value) ++ value))
spelled_by key None = 2 ∷ length key ∷ key

abbrev pub spelled : Record → Text
spelled r = spelled_by r.key r.value

-- The bytes of records, one after another.
abbrev pub log_of : List Record → Text
log_of records = flat_map spelled records

-- Bytes are these records.
pub record IsLog (bytes : Text) (records : List Record) : Type 0 where
  pub good : AllByRecursion IsRecord records
  pub are : bytes ≡ log_of records

-- The map after a record: the later one of a key holds.
abbrev pub after_by : Map → Text → Option Text → Map
after_by m key (Some value) = with_key m key value
after_by m key None = without_key m key

abbrev pub after : Map → Record → Map
after m r = after_by m r.key r.value

-- The map that records stand for, applied in order.
abbrev pub map_of : List Record → Map
map_of records = fold after [] records

-- A map after records, applied in order.
abbrev pub after_all : Map → List Record → Map
after_all m records = fold after m records

-- The records of a map, by key.
abbrev pub put_of : Text × Text → Record
put_of e = record { key = e.0; value = Some e.1 }
