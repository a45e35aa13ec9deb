use Rattle.opfs_space.proofs.Giving.{blocks_given}
use Rattle.opfs_space.proofs.staying.blocks_given_back_are_right.Goals as goal

pub returns : goal.returns
returns c = blocks_given
