use Rattle.opfs_desk_contents.proofs.Contained.{contents-keep}
use Rattle.opfs_desk_contents.proofs.laws.stored_contents_keep_blocks_right.Goals as goal

pub returns : goal.returns
returns c = contents-keep c.blocks_go_on.ensures
