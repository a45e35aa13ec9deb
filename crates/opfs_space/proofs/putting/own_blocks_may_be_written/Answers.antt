use Rattle.opfs_space.proofs.Mine.{mine_own, mine_free, mine_unnamed}
use Rattle.opfs_space.proofs.putting.own_blocks_may_be_written.Goals as goal

pub returns-clause-own : goal.returns-clause-own
returns-clause-own c = mine_own

pub returns-clause-free : goal.returns-clause-free
returns-clause-free c = mine_free

pub returns-clause-unnamed : goal.returns-clause-unnamed
returns-clause-unnamed c = mine_unnamed
