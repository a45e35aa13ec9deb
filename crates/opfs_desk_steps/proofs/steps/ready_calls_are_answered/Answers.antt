use Rattle.opfs_desk_steps.proofs.Answering.{ready-answered}
use Rattle.opfs_desk_steps.proofs.steps.ready_calls_are_answered.Goals as goal

pub returns : goal.returns
returns g c = ready-answered g.D.Disk c.reads_leave_the_state.ensures c.a_state_counts_its_history.ensures c.evictions_make_room.ensures c.lengths_decide_each_ruling.ensures
