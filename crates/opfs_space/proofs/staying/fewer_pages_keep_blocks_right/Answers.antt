use Rattle.opfs_space.proofs.Keeping.{blocks_fewer}
use Rattle.opfs_space.proofs.staying.fewer_pages_keep_blocks_right.Goals as goal

pub returns : goal.returns
returns c = blocks_fewer
