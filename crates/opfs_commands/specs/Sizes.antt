-- The words for the sizes of an image. This project's own.
use Rattle.std.specs.Prelude.{◌≡◌, true, decimal}
use Rattle.opfs_base.specs.Texts.{Text}
use Rattle.opfs_image.specs.Superblock.{is_in_range}
use Rattle.opfs_image.specs.declared.geometry.Geometry.{Geometry}

-- these words are the sizes as they print, and the sizes are in range
pub record AreSizes (g : Geometry) (blocks areas quota : Text) : Type 0 where
  pub blocks_are : blocks ≡ decimal g.blocks
  pub areas_are : areas ≡ decimal g.areas
  pub quota_is : quota ≡ decimal g.quota
  pub range : is_in_range g ≡ true
