use Rattle.opfs_gen.proofs.Summed.{summaries-are-of-own-runs}
use Rattle.opfs_gen.proofs.own.summaries_are_of_own_runs.Goals as goal

pub returns : goal.returns
returns c = summaries-are-of-own-runs
