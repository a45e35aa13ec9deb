use Rattle.opfs_space.proofs.Counting.{enough}
use Rattle.opfs_space.proofs.laws.covered_blocks_leave_room.Goals as goal

pub returns : goal.returns
returns c = λ used files others mine moves reserve is. enough used files others mine moves reserve is
