-- What rows use of the blocks, and what they and the persistent units add to the charge. This project's own.
use Rattle.std.specs.Prelude.{◌≡◌, ℕ, ◌+◌, ◌*◌, List, [], ◌∷◌, length, filter, sum_by, map}
use Rattle.opfs_base.specs.Blocks.{blocks}
use Rattle.opfs_base.specs.Texts.{Text, same_text}
use Rattle.opfs_base.specs.Places.{Place}
use Rattle.opfs_codec.specs.Charges.{unit_bytes, path_bytes}
use Rattle.opfs_codec.specs.declared.change.Format.{Format}
use Rattle.opfs_codec.specs.declared.change.Format.TheVariants.{Old, New}
use Rattle.opfs_shed.specs.Buckets.{Buckets, bucket_at}
use Rattle.opfs_tree.specs.Rows.{Rows}
use Rattle.opfs_tree.specs.declared.row.Row.{Row}
use Rattle.opfs_tree.specs.declared.row.Row.TheVariants as row
use Rattle.opfs_records.specs.Replay.Built.{Built}

-- The blocks that a row's file uses, and those of a unit's files.
abbrev pub row_blocks : Row → ℕ
row_blocks row.Dir = 0
row_blocks (row.File f) = blocks f.length

abbrev pub usage_in : Text → Rows → ℕ
usage_in unit rows = sum_by (λ e. row_blocks e.1) (filter (λ e. same_text unit e.0.0) rows)

-- The bytes of a unit in a key field: in format 1 its text, in format 2 its origin's key, a length and its bucket's name.
abbrev pub key_bytes : Format → Text → ℕ
key_bytes Old unit = length unit
key_bytes New unit = unit_bytes unit

-- What a row adds to the charge: as a root, as another directory, or as a file, with 8 for each of its blocks.
abbrev pub row_charge : Format → Place → Row → ℕ
row_charge f (unit, []) row.Dir = 3 + key_bytes f unit
row_charge f (unit, name ∷ names) row.Dir = 3 + key_bytes f unit + path_bytes (name ∷ names)
row_charge f (unit, path) (row.File file) = 34 + 2 * (key_bytes f unit + path_bytes path) + 8 * blocks file.length

-- The charge of what is built: that of its rows, and that of its persistent units.
unfoldable pub charge_of : Format → Built → ℕ
charge_of f b = sum_by (λ e. row_charge f e.0 e.1) b.rows + sum_by (λ unit. 3 + key_bytes f unit) b.persistent

-- The persistent units of a shed, in order.
abbrev pub persistent_in : Buckets → List Text
persistent_in buckets = map (λ e. e.0) (filter (λ e. e.1.persistent) buckets)

-- A shed has the persistent units of what is built, and the usage of each unit's files.
pub record AreShared (b : Built) (buckets : Buckets) : Type 0 where
  pub persistent : persistent_in buckets ≡ b.persistent
  pub usage : (unit : Text) → (bucket_at buckets unit).usage ≡ usage_in unit b.rows
