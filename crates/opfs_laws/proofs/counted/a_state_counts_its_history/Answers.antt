use Rattle.opfs_laws.proofs.CountsUp.{state-counts}
use Rattle.opfs_laws.proofs.counted.a_state_counts_its_history.Goals as goal

pub returns : goal.returns
returns c = state-counts
