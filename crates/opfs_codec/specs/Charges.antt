-- What a change adds to the charge. This project's own.
use Rattle.std.specs.Prelude.{ℕ, ◌+◌, ◌*◌, length}
use Rattle.opfs_base.specs.Blocks.{blocks}
pub use Rattle.opfs_base.specs.Measures.{unit_bytes, path_bytes}
use Rattle.opfs_codec.specs.declared.change.Change.{Change}
use Rattle.opfs_codec.specs.declared.change.Change.TheVariants.{MakeRoot, MakeDir, MakeFile, Remove, Content, Persist, Evict}

unfoldable pub charge : Change → ℕ
charge (MakeRoot unit) = 3 + unit_bytes unit
charge (MakeDir unit path) = 3 + unit_bytes unit + path_bytes path
charge (MakeFile unit path stamp) = 11 + unit_bytes unit + path_bytes path
charge (Remove unit path) = 3 + unit_bytes unit + path_bytes path
charge (Content unit path stamp size extents) = 23 + unit_bytes unit + path_bytes path + 8 * blocks size
charge (Persist unit) = 3 + unit_bytes unit
charge (Evict unit) = 3 + unit_bytes unit

-- The bytes of a change's spelling: as the charge, with the extents that there are.
unfoldable pub spelled : Change → ℕ
spelled (MakeRoot unit) = 3 + unit_bytes unit
spelled (MakeDir unit path) = 3 + unit_bytes unit + path_bytes path
spelled (MakeFile unit path stamp) = 11 + unit_bytes unit + path_bytes path
spelled (Remove unit path) = 3 + unit_bytes unit + path_bytes path
spelled (Content unit path stamp size extents) = 23 + unit_bytes unit + path_bytes path + 8 * length extents
spelled (Persist unit) = 3 + unit_bytes unit
spelled (Evict unit) = 3 + unit_bytes unit
