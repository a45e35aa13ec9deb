use Rattle.opfs_space.proofs.Placing.{row_opened}
use Rattle.opfs_space.proofs.staying.opened_rows_keep_blocks_right.Goals as goal

pub returns : goal.returns
returns c = row_opened
