-- A key-value file: its bytes, and what is kept of them in memory. This project's own.
use Rattle.std.specs.Prelude.{◌≡◌, ℕ, ◌≤◌, Bool, false, List, length, take}
use Rattle.opfs_base.specs.Texts.{Text}
use Rattle.opfs_kv.specs.Records.Indexes.{IsFitting, IsIndexed, Places}
use Rattle.opfs_kv.specs.Records.Maps.{Map}
use Rattle.opfs_kv.specs.Records.Records.{IsLog, Record, map_of}

-- The live bytes of a file are records, and the index has just the keys of their map, each with the place and length of its
-- value. Without a pending tail they are all its bytes.
pub record Keeps (tells : Type 0) (bytes : Text) (live : ℕ) (tail : Bool) (index : Places) : Type 0 where
  pub inside : live ≤ length bytes
  pub small : live ≤ 16777216
  pub whole : tail ≡ false → length bytes ≡ live
  pub fitting : IsFitting live index
  pub indexed : tells → IsIndexed (take live bytes) index

-- Bytes are records that stand for a map.
pub record Spells (bytes : Text) (m : Map) : Type 0 where
  pub records : List Record
  pub log : IsLog bytes records
  pub stands_for : map_of records ≡ m
