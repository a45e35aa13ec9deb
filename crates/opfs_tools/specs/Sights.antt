-- Rows without the bytes of their files. This project's own.
use Rattle.std.specs.Prelude.{ℕ, List, length, map, sum_by}
use Rattle.opfs_base.specs.Blocks.{blocks}
use Rattle.opfs_base.specs.Places.{Place}
use Rattle.opfs_machine.specs.Openings.{Stored, folder, document}
use Rattle.opfs_tree.specs.Rows.{Rows}
use Rattle.opfs_tree.specs.declared.row.Row.{Row}
use Rattle.opfs_tree.specs.declared.row.Row.TheVariants as row
use Rattle.opfs_tools.specs.declared.sights.Sight.{Sight}
use Rattle.opfs_tools.specs.declared.sights.Sight.TheVariants as sight

-- The rows in the order of their places, each with what is seen there.
abbrev pub Sights : Type 0
Sights = List (Place × Sight)

-- What is seen of what is stored: of a file its length and its time stamp.
abbrev pub sight_of : Stored → Sight
sight_of folder = sight.Directory
sight_of (document bytes stamp) = sight.File (length bytes) stamp

abbrev pub sights_of : List (Place × Stored) → Sights
sights_of rows = map (λ e. (e.0, sight_of e.1)) rows

-- The same of the rows of a tree, which know the lengths of their files.
abbrev pub sight_in : Row → Sight
sight_in row.Dir = sight.Directory
sight_in (row.File f) = sight.File f.length f.stamp

abbrev pub sights_in : Rows → Sights
sights_in rows = map (λ e. (e.0, sight_in e.1)) rows

-- The data blocks that a row uses, and those of several rows.
abbrev pub sight_blocks : Sight → ℕ
sight_blocks sight.Directory = 0
sight_blocks (sight.File size stamp) = blocks size

abbrev pub used_blocks : Sights → ℕ
used_blocks rows = sum_by (λ e. sight_blocks e.1) rows
