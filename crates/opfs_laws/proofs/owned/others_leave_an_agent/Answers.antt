use Rattle.opfs_laws.proofs.Left.{others-leave}
use Rattle.opfs_laws.proofs.owned.others_leave_an_agent.Goals as goal

pub returns : goal.returns
returns c = others-leave
