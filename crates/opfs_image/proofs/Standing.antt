-- What an image that was read stands for.
use Rattle.std.proofs.Common.{◌≡◌, ℕ, List, ap}
use Rattle.std.specs.Prelude.{Ok}
use Rattle.opfs_codec.specs.declared.change.Format.TheVariants.{New}
use Rattle.opfs_records.specs.Replay.Built.{Built}
use Rattle.opfs_image.specs.Filling.{Stands, filled, map_of}
use Rattle.opfs_image.specs.Reading.{read_as}
use Rattle.opfs_image.specs.Superblock.{data_base}
use Rattle.opfs_image.specs.declared.geometry.Geometry.{Geometry}

pub stands_filled : (c : List ℕ) (g : Geometry) (b : Built) → read_as New New c ≡ Ok (record { geometry = g; built = b }) → Stands c (filled (data_base g) c b)
stands_filled c g b read = ap (map_of c) read
