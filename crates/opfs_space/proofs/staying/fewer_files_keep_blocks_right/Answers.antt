use Rattle.opfs_space.proofs.Keeping.{blocks_less}
use Rattle.opfs_space.proofs.staying.fewer_files_keep_blocks_right.Goals as goal

pub returns : goal.returns
returns c = blocks_less
