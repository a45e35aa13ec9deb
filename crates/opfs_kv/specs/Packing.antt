-- What is made ready to be written to a key-value file. This project's own.
use Rattle.std.specs.Prelude.{◌≡◌, ℕ, ◌+◌, ◌≤◌, List, [], length, map, sum_by}
use Rattle.opfs_base.specs.Texts.{Text}
use Rattle.opfs_kv.specs.Records.Indexes.{IsFitting, Places, cost_of, indexed, read_out}
use Rattle.opfs_kv.specs.Records.Records.{Record, log_of, put_of}

-- These are the records of the map that an index reads out of bytes, by key, with their own index.
pub record IsAnew (bytes : Text) (index : Places) (packed : Text) (len : ℕ) (made : Places) : Type 0 where
  pub long : length packed ≡ len
  pub short : len ≤ sum_by cost_of index
  pub fitting : IsFitting len made
  pub are : packed ≡ log_of (map put_of (read_out bytes index))
  pub made_is : made ≡ indexed 0 (map put_of (read_out bytes index)) []

-- The same of a file's bytes, where the store tells what it reads.
pub record IsAnewFor (tells : Type 0) (bytes : Text) (index : Places) (packed : Text) (len : ℕ) (made : Places) : Type 0 where
  pub read : Text
  pub told : tells → read ≡ bytes
  pub anew : IsAnew read index packed len made

-- These are the bytes of records, with the index and the number of live bytes when they stand behind so many.
pub record IsReadied (live : ℕ) (index : Places) (records : List Record) (bytes : Text) (made : Places) (end : ℕ) : Type 0 where
  pub bytes_are : bytes ≡ log_of records
  pub made_is : made ≡ indexed live records index
  pub end_is : end ≡ live + length (log_of records)
