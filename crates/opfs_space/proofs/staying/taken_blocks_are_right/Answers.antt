use Rattle.std.proofs.Common.{take}
use Rattle.opfs_blocks.specs.Sets.{free_blocks}
use Rattle.opfs_space.proofs.Taking.{are_free, blocks_taken, taken_mine, own_mine}
use Rattle.opfs_space.proofs.staying.taken_blocks_are_right.Goals as goal

pub returns-clause-right : goal.returns-clause-right
returns-clause-right c = λ h used own n are size. blocks_taken h used own (take n (free_blocks used)) are size (are_free used n)

pub returns-clause-mine : goal.returns-clause-mine
returns-clause-mine c = λ h used own n agent row page b are size is. taken_mine h used own (take n (free_blocks used)) are size (are_free used n) agent row page b is

pub returns-clause-own : goal.returns-clause-own
returns-clause-own c = own_mine
