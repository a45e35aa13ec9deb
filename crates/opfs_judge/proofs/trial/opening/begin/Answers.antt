use Rattle.opfs_judge.proofs.trial.Keys.{no_own_rows}
use Rattle.opfs_judge.proofs.trial.opening.begin.Goals as goal

pub make-requires-clause-own : goal.make-requires-clause-own
make-requires-clause-own c = no_own_rows _ _ c.in_ok-agents.ensures.agents
