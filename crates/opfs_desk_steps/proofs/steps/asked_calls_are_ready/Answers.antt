use Rattle.opfs_desk_steps.proofs.Ready.{asked-ready}
use Rattle.opfs_desk_steps.proofs.steps.asked_calls_are_ready.Goals as goal

pub returns : goal.returns
returns g c = asked-ready g.D.Disk c.reads_leave_the_state.ensures c.lengths_follow_each_call.ensures c.local_calls_are_known_by_their_word.ensures
