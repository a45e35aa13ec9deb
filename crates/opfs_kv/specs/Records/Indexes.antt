-- The index of a key-value file: where each key's value is. This project's own.
use Rattle.std.specs.Prelude.{◌≡◌, ℕ, ◌+◌, ◌≤◌, List, [], ◌∷◌, length, map, sum_by, Option, Some, None}
use Rattle.std.specs.List.{AllByRecursion}
use Rattle.opfs_base.specs.Texts.{Text}
use Rattle.opfs_kv.specs.Records.Maps.{Map, with_key, without_key}
use Rattle.opfs_kv.specs.Records.Records.{Record, IsKey, IsLog, spelled}
use Rattle.opfs_kv.specs.declared.records.place.Place.{Place}
use Rattle.opfs_splice.specs.Splicing.{window}

abbrev pub Places : Type 0
Places = List (Text × Place)

-- The index after a record that begins at a place.
abbrev pub placed_by : ℕ → Places → Text → Option Text → Places
placed_by at index key (Some value) = with_key index key (record { at = at + (6 + length key); len = length value })
placed_by at index key None = without_key index key

abbrev pub placed : ℕ → Places → Record → Places
placed at index r = placed_by at index r.key r.value

-- The index after records that begin at a place.
abbrev pub indexed : ℕ → List Record → Places → Places
indexed at [] index = index
indexed at (r ∷ records) index = indexed (at + length (spelled r)) records (placed at index r)

-- The map that an index reads out of bytes.
abbrev pub read_out : Text → Places → Map
read_out bytes index = map (λ e. (e.0, window bytes e.1.at e.1.len)) index

-- Bytes are records, and the index has their keys and places.
pub record IsIndexed (bytes : Text) (index : Places) : Type 0 where
  pub records : List Record
  pub log : IsLog bytes records
  pub index_is : index ≡ indexed 0 records []

-- How many bytes the records of an index take, and that each of them has a spelling.
abbrev pub cost_of : Text × Place → ℕ
cost_of e = 6 + length e.0 + e.1.len

abbrev pub IsEntry : Text × Place → Type 0
IsEntry e = IsKey e.0 × (e.1.len ≤ 65536)

pub record IsFitting (room : ℕ) (index : Places) : Type 0 where
  pub good : AllByRecursion IsEntry index
  pub fits : sum_by cost_of index ≤ room
