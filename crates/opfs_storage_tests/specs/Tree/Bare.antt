-- Trees whose files have no blocks.
use Rattle.std.specs.Prelude.{◌≡◌, length}
use Rattle.opfs_base.specs.Places.{Place}
use Rattle.opfs_tree.specs.Rows.{Rows, extents_within}

-- No row has extents.
abbrev pub IsBare : Rows → Type 0
IsBare rows = (at : Place) → length (extents_within at rows) ≡ 0
