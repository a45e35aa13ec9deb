use Rattle.opfs_space.proofs.Mine.{planned_mine, planned_once}
use Rattle.opfs_space.proofs.putting.planned_pages_may_be_written.Goals as goal

pub returns-clause-mine : goal.returns-clause-mine
returns-clause-mine c = planned_mine

pub returns-clause-once : goal.returns-clause-once
returns-clause-once c = planned_once
