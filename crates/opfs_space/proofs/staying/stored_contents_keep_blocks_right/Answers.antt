use Rattle.opfs_blocks.specs.Sets.{marked}
use Rattle.std.proofs.Common.{false}
use Rattle.opfs_space.proofs.Storing.{blocks_stored}
use Rattle.opfs_space.proofs.Taking.{owned_less}
use Rattle.opfs_space.proofs.staying.stored_contents_keep_blocks_right.Goals as goal

pub returns : goal.returns
returns c = λ old new used own agent row blocks are is. blocks_stored old new agent row blocks used own (marked false blocks own) are is (owned_less blocks own)
