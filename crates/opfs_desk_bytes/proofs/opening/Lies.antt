-- The blocks of a file lie below the size of a disk.
use Rattle.std.proofs.Common.{◌≡◌, ℕ, ◌+◌, ◌^◌, ◌≤◌, true, false, List, [], ◌∷◌, Option, Some, None, refl, arith}
use Rattle.std.specs.List.{AllByRecursion}
use Rattle.opfs_base.specs.Places.{Place, place_of}
use Rattle.opfs_base.specs.declared.extents.Extent.{Extent}
use Rattle.opfs_hist.specs.declared.op.Op.{Op}
use Rattle.opfs_hist.specs.declared.op.Op.TheVariants as op
use Rattle.opfs_image.specs.Superblock.{is_in_range}
use Rattle.opfs_image.specs.declared.geometry.Geometry.{Geometry}
use Rattle.opfs_records.specs.Replay.Built.{IsSoundRow}
use Rattle.opfs_records.specs.Checkpoint.Written.{stored_rows}
use Rattle.opfs_tree.specs.declared.row.Row.{Row}
use Rattle.opfs_tree.specs.declared.row.Row.TheVariants as row
use Rattle.opfs_tree.specs.Rows.{Rows as Tree, row_at}
use Rattle.opfs_desk_steps.specs.RowLaws.Opens.{opens_row, file_extents, opened_extents}
use Rattle.opfs_desk_steps.proofs.row_laws.Stored.{sound-at}
use Rattle.opfs_space.specs.Files.{extents_in}

abbrev LieBelow : ℕ → List Extent → Type 0
LieBelow size extents = AllByRecursion (λ (e : Extent). e.start + e.count ≤ size) extents

few-blocks : (g : Geometry) → is_in_range g ≡ true → g.blocks ≤ 2 ^ 32
few-blocks g is = grind (arith, is)

all-below : (size more : ℕ) → size ≤ more → (extents : List Extent) → LieBelow size extents → LieBelow more extents
all-below size more h [] all = tt
all-below size more h (e ∷ extents) all = (omega (arith, h, all.0), all-below size more h extents all.1)

row-below : (size : ℕ) (t : Tree) (place : Place) (o : Option Row) → AllByRecursion (λ e. IsSoundRow size e.1) (stored_rows t) → row_at place t ≡ o → LieBelow size (extents_in o)
row-below size t place None sound is = tt
row-below size t place (Some row.Dir) sound is = tt
row-below size t place (Some (row.File r)) sound is = (sound-at size t place r sound is).below

module _ (g : Geometry) (t : Tree) (range : is_in_range g ≡ true) (sound : AllByRecursion (λ e. IsSoundRow g.blocks e.1) (stored_rows t)) where
  file-below : (place : Place) → LieBelow (2 ^ 32) (file_extents t place)
  file-below place = all-below g.blocks (2 ^ 32) (few-blocks g range) (file_extents t place) (row-below g.blocks t place (row_at place t) sound refl)

  pub extents-below : (o : Op) → opens_row o ≡ true → LieBelow (2 ^ 32) (opened_extents t o)
  extents-below (op.CreateWritable at true) h = file-below (place_of at)
  extents-below (op.CreateWritable at false) h = tt
  extents-below (op.CreateSyncAccessHandle at mode) h = file-below (place_of at)
  extents-below o h = cc
