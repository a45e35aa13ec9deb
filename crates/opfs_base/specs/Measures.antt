-- What the store's things measure, in blocks and in bytes of a change. All of this is this project's own.
use Rattle.std.specs.Prelude.{ℕ, ◌+◌, ◌*◌, Bool, true, false, List, [], ◌∷◌, length, sum_by}
use Rattle.opfs_base.specs.Texts.{Text}
use Rattle.opfs_base.specs.Places.{Place}
use Rattle.opfs_base.specs.Units.{origin_of, bucket_of}
use Rattle.opfs_base.specs.declared.locator.Kind.{Kind}
use Rattle.opfs_base.specs.declared.locator.Kind.TheVariants as kind

-- The bytes of a block.
abbrev pub block_size : ℕ
block_size = 4096

-- What each block of the pool adds to the charge, in bytes.
abbrev pub block_charge : ℕ
block_charge = 8

-- The bytes of a unit in a change: its origin's key, a length, and its bucket's name.
abbrev pub unit_bytes : Text → ℕ
unit_bytes unit = length (origin_of unit) + 1 + length (bucket_of unit)

-- The bytes of a path in a change.
abbrev pub path_bytes : List Text → ℕ
path_bytes path = 1 + sum_by (λ name. 1 + length name) path

-- The charge of a root, of another directory, of a file, and of a unit's mode.
abbrev pub root_charge : Text → ℕ
root_charge unit = 3 + unit_bytes unit

abbrev pub directory_charge : Place → ℕ
directory_charge place = 3 + unit_bytes place.0 + path_bytes place.1

abbrev pub file_charge : Place → ℕ
file_charge place = 34 + 2 * (unit_bytes place.0 + path_bytes place.1)

abbrev pub mode_charge : Text → ℕ
mode_charge unit = 3 + unit_bytes unit

-- Whether a place is a root's.
abbrev pub is_root : Place → Bool
is_root (unit, []) = true
is_root (unit, name ∷ path) = false

-- The charge of a row that is made at a place.
abbrev pub place_charge : Kind → Place → ℕ
place_charge kind.File place = file_charge place
place_charge kind.Directory place = elim (is_root place) [ true ↦ root_charge place.0 | false ↦ directory_charge place ]
