-- What `check` prints of a map: the digest of each file, and counts. This project's own.
use Rattle.std.specs.Prelude.{ℕ, ◌+◌, ◌*◌, Bool, true, false, List, [], ◌∷◌, ◌++◌, codes, decimal, length, sum_by, filter}
use Rattle.std.specs.List.{flat_map}
use Rattle.hex.specs.Hex.{encode_lower}
use Rattle.sha2.specs.Sha256.{sha256}
use Rattle.opfs_base.specs.Blocks.{blocks}
use Rattle.opfs_base.specs.Texts.{Text}
use Rattle.opfs_base.specs.Places.{Place}
use Rattle.opfs_base.specs.Measures.{block_charge, root_charge, directory_charge, file_charge, mode_charge}
use Rattle.opfs_machine.specs.Openings.{Map, Stored, folder, document}
use Rattle.opfs_print.specs.Lines.{joined, names_text}
use Rattle.opfs_tools.specs.Sights.{Sights, sights_of, used_blocks}
use Rattle.opfs_tools.specs.Units.{units_of}
use Rattle.opfs_tools.specs.declared.sights.Sight.{Sight}
use Rattle.opfs_tools.specs.declared.sights.Sight.TheVariants as sight

-- The line of a file with these bytes: their SHA-256 in hexadecimal, and its place.
unfoldable pub digest_line : Place → Text → Text
digest_line place bytes =
    joined (codes "file " ∷ encode_lower (sha256 bytes) ∷ codes " " ∷ place.0 ∷ codes " " ∷ names_text place.1 ∷ codes "\n" ∷ [])

abbrev pub stored_line : Place × Stored → Text
stored_line (place, folder) = []
stored_line (place, document bytes stamp) = digest_line place bytes

abbrev pub is_directory : Place × Sight → Bool
is_directory (place, sight.Directory) = true
is_directory (place, sight.File size stamp) = false

abbrev pub is_file : Place × Sight → Bool
is_file (place, sight.Directory) = false
is_file (place, sight.File size stamp) = true

abbrev pub count_of : (Place × Sight → Bool) → Sights → ℕ
count_of test rows = length (filter test rows)

-- What a row adds to the charge: as a root, as another directory, or as a file.
abbrev pub row_charge : Place × Sight → ℕ
row_charge ((unit, []), sight.Directory) = root_charge unit
row_charge ((unit, name ∷ names), sight.Directory) = directory_charge (unit, name ∷ names)
row_charge ((unit, path), sight.File size stamp) = file_charge (unit, path) + block_charge * blocks size

-- The charge of rows and persistent units.
unfoldable pub whole_charge : Sights → List Text → ℕ
whole_charge rows persistent = sum_by row_charge rows + sum_by mode_charge persistent

-- The last line: how many units `list` prints, the directories, the files, the used data blocks, and the charge.
abbrev pub ok_line : ℕ → ℕ → ℕ → ℕ → ℕ → Text
ok_line units directories files used charge =
    joined (codes "ok " ∷ decimal units ∷ codes " " ∷ decimal directories ∷ codes " " ∷ decimal files ∷ codes " " ∷ decimal used ∷ codes " " ∷ decimal charge ∷ codes "\n" ∷ [])

unfoldable pub counts_line : Sights → List Text → Text
counts_line rows persistent =
    ok_line (length (units_of rows persistent)) (count_of is_directory rows) (count_of is_file rows) (used_blocks rows) (whole_charge rows persistent)

-- The text of a map.
abbrev pub check_text : Map → Text
check_text m = flat_map stored_line m.rows ++ counts_line (sights_of m.rows) m.persistent
