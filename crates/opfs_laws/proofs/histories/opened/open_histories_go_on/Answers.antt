use Rattle.opfs_laws.proofs.histories.Opening.{histories-open}
use Rattle.opfs_laws.proofs.histories.opened.open_histories_go_on.Goals as goal

pub returns : goal.returns
returns c = histories-open
