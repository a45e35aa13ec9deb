-- What rows add to the sums of the store. This project's own.
use Rattle.std.specs.Prelude.{ℕ, ◌+◌, ◌*◌, List, [], ◌∷◌, filter}
use Rattle.opfs_base.specs.Texts.{Text}
use Rattle.opfs_base.specs.Places.{Place, is_within}
use Rattle.opfs_base.specs.Measures.{path_bytes, place_charge}
use Rattle.opfs_tree.specs.declared.row.Row.{Row}
use Rattle.opfs_tree.specs.declared.row.Row.TheVariants as row
use Rattle.opfs_tree.specs.Rows.{Rows, kind_of}

-- What a row adds to the charge, but for its blocks, in a unit that takes so many bytes: as a root, as another
-- directory, or as a file.
abbrev pub charge_in : ℕ → List Text → Row → ℕ
charge_in unit [] row.Dir = 3 + unit
charge_in unit (name ∷ names) row.Dir = 3 + unit + path_bytes (name ∷ names)
charge_in unit path (row.File f) = 34 + 2 * (unit + path_bytes path)

-- What a row at a place adds to the charge, but for its blocks.
abbrev pub row_charge : Place × Row → ℕ
row_charge e = place_charge (kind_of e.1) e.0

-- The rows at a place and below it, with their places.
abbrev pub entries_within : Place → Rows → Rows
entries_within place rows = filter (λ e. is_within place e.0) rows
