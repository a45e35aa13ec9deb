use Rattle.opfs_laws.proofs.steady.GoingOn.{steady-goes}
use Rattle.opfs_laws.proofs.steady.settling.steady_pages_go_on.Goals as goal

pub returns : goal.returns
returns c = steady-goes
