use Rattle.opfs_space.proofs.Taking.{blocks_first}
use Rattle.opfs_space.proofs.staying.first_blocks_are_right.Goals as goal

pub returns : goal.returns
returns c = blocks_first
