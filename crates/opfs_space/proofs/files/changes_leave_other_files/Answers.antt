use Rattle.opfs_space.proofs.FileBlocks.{content_changed, less_has, stays_has}
use Rattle.opfs_space.proofs.files.changes_leave_other_files.Goals as goal

pub returns-clause-stored : goal.returns-clause-stored
returns-clause-stored c = content_changed

pub returns-clause-fewer : goal.returns-clause-fewer
returns-clause-fewer c = less_has

pub returns-clause-stays : goal.returns-clause-stays
returns-clause-stays c = stays_has
