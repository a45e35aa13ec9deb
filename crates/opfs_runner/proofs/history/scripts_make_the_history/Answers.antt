use Rattle.opfs_runner.proofs.Joining.{make-history}
use Rattle.opfs_runner.proofs.history.scripts_make_the_history.Goals as goal

pub returns : goal.returns
returns c = make-history
