-- What bytes read as: a map and the sizes of its image, or why they are refused. This project's own.
use Rattle.std.specs.Prelude.{ℕ, ◌+◌, ◌==◌, ◌&&◌, nat_lt, Bool, false, List, [], ◌∷◌, ◌++◌, length, Option, Some, None, Result, Ok, Err, codes, if◌then◌else◌}
use Rattle.serde_json.specs.Data as json
use Rattle.serde_json.specs.Find.{as_str}
use Rattle.opfs_base.specs.Names.{is_valid_name}
use Rattle.opfs_base.specs.Places.{Place}
use Rattle.opfs_base.specs.Texts.{Text}
use Rattle.opfs_image.specs.Superblock.{area_bytes, is_in_range}
use Rattle.opfs_image.specs.declared.geometry.Geometry.{Geometry}
use Rattle.opfs_machine.specs.Openings.{Map, Stored, folder, document}
use Rattle.opfs_script.specs.Members.{◌>>=◌, has_only, text, number, values, hex_bytes}
use Rattle.opfs_script.specs.Reading.{json_of}
use Rattle.opfs_dump.specs.Text.Limits.{are_units, may_follow, blocks_needed, charge_of_map}
use Rattle.opfs_dump.specs.declared.text.refusal.DumpRefusal.{DumpRefusal}
use Rattle.opfs_dump.specs.declared.text.refusal.DumpRefusal.TheVariants as refusal

-- The sizes of an image, and what it stands for.
pub record Dump : Type 0 where
  pub geometry : Geometry
  pub map : Map

-- ---- forms

-- A list of texts.
abbrev pub texts_of : List json.Data → Option (List Text)
texts_of [] = Some []
texts_of (value ∷ more) = as_str value >>= λ first. texts_of more >>= λ rest. Some (first ∷ rest)

abbrev pub texts : Text → json.Data → Option (List Text)
texts name value = values name value >>= texts_of

-- A valid file name.
abbrev pub name_of : json.Data → Option Text
name_of value = as_str value >>= λ name. (if is_valid_name name then Some name else None)

abbrev pub names_of : List json.Data → Option (List Text)
names_of [] = Some []
names_of (value ∷ more) = name_of value >>= λ first. names_of more >>= λ rest. Some (first ∷ rest)

abbrev pub path_in : json.Data → Option (List Text)
path_in value = values (codes "path") value >>= names_of

-- A unit and a path.
abbrev pub place_in : json.Data → Option Place
place_in value = text (codes "key") value >>= λ unit. path_in value >>= λ path. Some (unit, path)

abbrev pub folder_in : json.Data → Option (Place × Stored)
folder_in value = place_in value >>= λ place. Some (place, folder)

-- The bytes of a member that is a text of hexadecimal digits.
abbrev pub bytes_in : json.Data → Option Text
bytes_in value = text (codes "hex") value >>= hex_bytes

abbrev pub file_in : json.Data → Option Stored
file_in value = bytes_in value >>= λ bytes. number (codes "stamp") value >>= λ stamp. Some (document bytes stamp)

abbrev pub document_in : json.Data → Option (Place × Stored)
document_in value = place_in value >>= λ place. file_in value >>= λ stored. Some (place, stored)

-- A row: a directory has no other members than its unit and its path, a file has its bytes and its time stamp besides.
unfoldable pub row_in : json.Data → Option (Place × Stored)
row_in value =
    if has_only (codes "key" ∷ codes "path" ∷ []) value then folder_in value
    else (if has_only (codes "hex" ∷ codes "key" ∷ codes "path" ∷ codes "stamp" ∷ []) value then document_in value else None)

-- What the whole has besides its rows, and these as they stand.
pub record Top : Type 0 where
  pub geometry : Geometry
  pub persistent : List Text
  pub rows : List json.Data

abbrev pub sizes_in : json.Data → Option Geometry
sizes_in value =
    number (codes "areas") value >>= λ areas. number (codes "blocks") value >>= λ blocks. number (codes "quota") value >>= λ quota.
    (if is_in_range (record { areas = areas; blocks = blocks; quota = quota }) then Some (record { areas = areas; blocks = blocks; quota = quota }) else None)

abbrev pub is_version : json.Data → Bool
is_version value = elim (number (codes "version") value) [ None ↦ false | Some version ↦ version == 2 ]

abbrev pub units_in : json.Data → Option (List Text)
units_in value = texts (codes "persistent") value >>= λ units. (if are_units units then Some units else None)

abbrev pub parts_in : json.Data → Option Top
parts_in value =
    sizes_in value >>= λ geometry. units_in value >>= λ persistent. values (codes "rows") value >>= λ rows.
    Some (record { geometry = geometry; persistent = persistent; rows = rows })

abbrev pub top_members : List Text
top_members = codes "areas" ∷ codes "blocks" ∷ codes "persistent" ∷ codes "quota" ∷ codes "rows" ∷ codes "version" ∷ []

-- The whole has these members alone: three sizes in range, the version 2, the persistent units, strictly rising, and the rows.
unfoldable pub top_in : json.Data → Option Top
top_in value = if has_only top_members value && is_version value then parts_in value else None

-- ---- one part after another

abbrev pub Read : Type 0 → Type 0
Read A = Result A DumpRefusal

-- A row that may follow those before it.
unfoldable pub next_row : List (Place × Stored) → json.Data → Option (Place × Stored)
next_row done value = row_in value >>= λ e. (if may_follow done e then Some e else None)

-- The rows from one of this number on, behind others.
unfoldable pub rows_from : ℕ → List (Place × Stored) → List json.Data → Read (List (Place × Stored))
rows_from at done [] = Ok done
rows_from at done (value ∷ more) =
    elim (next_row done value) [ None ↦ Err (refusal.BadDump at) | Some e ↦ rows_from (at + 1) (done ++ e ∷ []) more ]

-- What was read, if its files have blocks enough, and its charge with a record's 7 bytes fits an area.
unfoldable pub if_fits : Dump → Read Dump
if_fits d =
    if nat_lt d.geometry.blocks (blocks_needed d.map.rows) then Err (refusal.Full (blocks_needed d.map.rows) d.geometry.blocks)
    else (if nat_lt (area_bytes d.geometry) (charge_of_map d.map + 7) then Err (refusal.Overfull (charge_of_map d.map) (area_bytes d.geometry))
    else Ok d)

abbrev pub if_rows : Top → Read (List (Place × Stored)) → Read Dump
if_rows top (Err why) = Err why
if_rows top (Ok rows) = if_fits (record { geometry = top.geometry; map = record { rows = rows; persistent = top.persistent } })

abbrev pub if_topped : Option Top → Read Dump
if_topped None = Err (refusal.BadDump 0)
if_topped (Some top) = if_rows top (rows_from 1 [] top.rows)

abbrev pub if_json : Option json.Data → Read Dump
if_json None = Err refusal.NotJson
if_json (Some value) = if_topped (top_in value)

abbrev pub most_bytes : ℕ
most_bytes = 67108864

-- What bytes read as.
unfoldable pub reads_dump : Text → Read Dump
reads_dump bytes = if nat_lt most_bytes (length bytes) then Err refusal.TooLong else if_json (json_of bytes)
