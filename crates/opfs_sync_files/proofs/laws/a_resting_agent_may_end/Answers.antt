use Rattle.opfs_sync_files.proofs.Resting.{rests-end}
use Rattle.opfs_sync_files.proofs.laws.a_resting_agent_may_end.Goals as goal

pub returns : goal.returns
returns g c = rests-end c.args.agent.now c.requires.rests
