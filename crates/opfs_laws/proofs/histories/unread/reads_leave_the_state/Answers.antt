use Rattle.opfs_laws.proofs.histories.Reading.{reads-leave}
use Rattle.opfs_laws.proofs.histories.unread.reads_leave_the_state.Goals as goal

pub returns : goal.returns
returns c = reads-leave
