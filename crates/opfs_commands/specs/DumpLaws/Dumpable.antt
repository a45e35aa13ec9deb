-- What an image stands for, as far as its text is read back. This project's own.
use Rattle.std.specs.Prelude.{◌≡◌, ◌+◌, ◌<◌, ◌≤◌, ◌^◌, true, List, [], ◌∷◌, ◌++◌, ⊤}
use Rattle.std.specs.List.{AllByRecursion}
use Rattle.std.specs.Str.{IsUtf8}
use Rattle.hex.specs.Hex.{IsBytes}
use Rattle.opfs_base.specs.Names.{is_valid_name}
use Rattle.opfs_base.specs.Places.{Place}
use Rattle.opfs_base.specs.Texts.{Text}
use Rattle.opfs_dump.specs.Text.Limits.{are_units, may_follow, blocks_needed, charge_of_map}
use Rattle.opfs_image.specs.Superblock.{area_bytes, is_in_range}
use Rattle.opfs_image.specs.declared.geometry.Geometry.{Geometry}
use Rattle.opfs_machine.specs.Openings.{Map, Stored, folder, document}

-- A name is a text and valid.
abbrev pub IsNamed : Text → Type 0
IsNamed name = IsUtf8 name × (is_valid_name name ≡ true)

-- A file has bytes, and a time stamp of 8 bytes.
abbrev pub IsTold : Stored → Type 0
IsTold folder = ⊤
IsTold (document bytes stamp) = IsBytes bytes × (stamp < 2 ^ 64)

abbrev pub IsToldRow : Place × Stored → Type 0
IsToldRow e = IsUtf8 e.0.0 × AllByRecursion IsNamed e.0.1 × IsTold e.1

-- Each of these rows may follow those before it.
abbrev pub AllFollow : List (Place × Stored) → List (Place × Stored) → Type 0
AllFollow done [] = ⊤
AllFollow done (e ∷ more) = (may_follow done e ≡ true) × AllFollow (done ++ e ∷ []) more

-- The sizes are in range, the units and the rows are told by texts and stand in their order, and the rows and their files have room.
pub record IsDumpable (g : Geometry) (m : Map) : Type 0 where
  pub range : is_in_range g ≡ true
  pub units : are_units m.persistent ≡ true
  pub texts : AllByRecursion IsUtf8 m.persistent
  pub rows : AllByRecursion IsToldRow m.rows
  pub follow : AllFollow [] m.rows
  pub blocks : blocks_needed m.rows ≤ g.blocks
  pub room : charge_of_map m + 7 ≤ area_bytes g
