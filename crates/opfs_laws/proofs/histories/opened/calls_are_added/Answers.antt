use Rattle.opfs_laws.proofs.histories.Adding.{calls-added}
use Rattle.opfs_laws.proofs.histories.opened.calls_are_added.Goals as goal

pub returns : goal.returns
returns c = calls-added
