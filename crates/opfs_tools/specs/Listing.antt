-- What `list` prints of a map: each unit with its mode and its data blocks, and then its rows. This project's own.
use Rattle.std.specs.Prelude.{Bool, true, false, List, [], ◌∷◌, ◌++◌, codes, decimal}
use Rattle.std.specs.List.{flat_map}
use Rattle.opfs_base.specs.Texts.{Text}
use Rattle.opfs_base.specs.Places.{Place}
use Rattle.opfs_machine.specs.Openings.{Map}
use Rattle.opfs_print.specs.Lines.{joined, names_text}
use Rattle.opfs_tools.specs.Sights.{Sights, sights_of, used_blocks}
use Rattle.opfs_tools.specs.Units.{UnitSeen, units_of}
use Rattle.opfs_tools.specs.declared.sights.Sight.{Sight}
use Rattle.opfs_tools.specs.declared.sights.Sight.TheVariants as sight

-- A bucket's mode.
abbrev pub mode_text : Bool → Text
mode_text false = codes "best-effort"
mode_text true = codes "persistent"

abbrev pub unit_line : UnitSeen → Text
unit_line u = joined (codes "key " ∷ u.key ∷ codes " " ∷ mode_text u.persistent ∷ codes " " ∷ decimal (used_blocks u.rows) ∷ codes "\n" ∷ [])

-- A directory's path; a file's path, its length in bytes and its time stamp.
abbrev pub line_by : List Text → Sight → Text
line_by path sight.Directory = joined (codes "dir " ∷ names_text path ∷ codes "\n" ∷ [])
line_by path (sight.File size stamp) =
    joined (codes "file " ∷ names_text path ∷ codes " " ∷ decimal size ∷ codes " " ∷ decimal stamp ∷ codes "\n" ∷ [])

unfoldable pub row_line : Place × Sight → Text
row_line e = line_by e.0.1 e.1

unfoldable pub unit_text : UnitSeen → Text
unit_text u = unit_line u ++ flat_map row_line u.rows

-- The text of rows and persistent units.
abbrev pub list_of : Sights → List Text → Text
list_of rows persistent = flat_map unit_text (units_of rows persistent)

-- The text of a map.
abbrev pub list_text : Map → Text
list_text m = list_of (sights_of m.rows) m.persistent
