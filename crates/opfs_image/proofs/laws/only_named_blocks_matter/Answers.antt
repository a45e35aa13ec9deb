use Rattle.opfs_image.proofs.Named.{same_filled}
use Rattle.opfs_image.proofs.laws.only_named_blocks_matter.Goals as goal

pub returns : goal.returns
returns g = λ base b c d same. same_filled base c d b same
