use Rattle.opfs_space.proofs.Placing.{pages_written}
use Rattle.opfs_space.proofs.staying.written_pages_keep_blocks_right.Goals as goal

pub returns : goal.returns
returns c = pages_written
