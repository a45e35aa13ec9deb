use Rattle.opfs_image.proofs.Layering.{layered, unlayered}
use Rattle.opfs_image.proofs.laws.an_image_is_what_its_records_build.Goals as goal

pub returns : goal.returns
returns g = λ wanted counted c image. (layered wanted counted c image, unlayered wanted counted c image)
