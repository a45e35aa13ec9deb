-- Where the bytes of files lie, and their lines. This project's own.
use Rattle.std.specs.Prelude.{ℕ, ◌≤◌, List, map}
use Rattle.std.specs.List.{AllByRecursion, flat_map}
use Rattle.opfs_base.specs.Texts.{Text}
use Rattle.opfs_data.specs.Places.{room_of, AllLie}
use Rattle.opfs_image.specs.Filling.{filled_row}
use Rattle.opfs_tree.specs.Rows.{Rows}
use Rattle.opfs_tree.specs.declared.row.Row.{Row}
use Rattle.opfs_tree.specs.declared.row.Row.TheVariants as row
use Rattle.opfs_tools.specs.Checking.{stored_line}

-- A file's blocks have room for its bytes, and lie before a place.
abbrev pub Lies : ℕ → ℕ → Row → Type 0
Lies base end row.Dir = Unit {0}
Lies base end (row.File f) = (f.length ≤ room_of f.extents) × AllLie base end f.extents

abbrev pub RowsLie : ℕ → ℕ → Rows → Type 0
RowsLie base end rows = AllByRecursion (λ e. Lies base end e.1) rows

-- The lines of the files of a tree's rows, with the bytes that an image has in their blocks.
unfoldable pub stored_lines : ℕ → List ℕ → Rows → Text
stored_lines base c rows = flat_map stored_line (map (λ e. (e.0, filled_row base c e.1)) rows)
