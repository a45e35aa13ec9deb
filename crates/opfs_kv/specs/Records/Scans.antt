-- How a file is read in pieces, record by record. This project's own.
use Rattle.std.specs.Prelude.{◌≡◌, ◌≢◌, ℕ, ◌+◌, ◌<◌, List, ◌++◌, length, drop, Option, Some, None}
use Rattle.std.specs.List.{AllByRecursion}
use Rattle.opfs_base.specs.Texts.{Text}
use Rattle.opfs_kv.specs.Records.Indexes.{Places, indexed}
use Rattle.opfs_kv.specs.Records.Records.{Record, IsRecord, spelled, log_of}
use Rattle.opfs_kv.specs.Records.Maps.{with_key, without_key}
use Rattle.opfs_kv.specs.declared.records.miss.Miss.{Miss}
use Rattle.opfs_kv.specs.declared.records.miss.Miss.TheVariants as miss
use Rattle.opfs_splice.specs.Splicing.{window}

-- A piece of a file of so many bytes, from a place on.
pub record IsPiece (whole : Text) (size at : ℕ) (piece : Text) : Type 0 where
  pub sized : length whole ≡ size
  pub here : piece ≡ window whole at (length piece)

-- No record is spelled at a place of a file.
abbrev pub IsBadAt : Text → ℕ → Type 0
IsBadAt whole at = (r : Record) (rest : Text) → IsRecord r → drop at whole ≡ spelled r ++ rest → ⊥

-- From a place on records were read up to another, and the index has their keys and places.
pub record HasRead (whole : Text) (at : ℕ) (before : Places) (next : ℕ) (index : Places) : Type 0 where
  pub records : List Record
  pub good : AllByRecursion IsRecord records
  pub are : drop at whole ≡ log_of records ++ drop next whole
  pub long : next ≡ at + length (log_of records)
  pub index_is : index ≡ indexed at records before

-- They were read up to the first place where none is spelled.
pub record HasFailed (whole : Text) (at : ℕ) (before : Places) (place : ℕ) : Type 0 where
  pub index : Places
  pub read : HasRead whole at before place index
  pub inside : place < length whole
  pub bad : IsBadAt whole place

-- What a piece's reading says where it ends early.
abbrev pub HasStopped : ℕ → ℕ → Text → Places → Miss → Type 0
HasStopped size at piece before miss.Memory = Unit {0}
HasStopped size at piece before (miss.Bad place) = (whole : Text) → IsPiece whole size at piece → HasFailed whole at before place

-- So many bytes from a place on may be too few for the front of a record: there are more behind them.
abbrev pub IsShort : ℕ → ℕ → ℕ → Type 0
IsShort size at len = (len < 261) × (at + len ≢ size)

-- The index after a record of this key, whose value has so many bytes or is taken out.
abbrev pub put_in : ℕ → Places → Text → Option ℕ → Places
put_in at index key (Some size) = with_key index key (record { at = at + (6 + length key); len = size })
put_in at index key None = without_key index key
