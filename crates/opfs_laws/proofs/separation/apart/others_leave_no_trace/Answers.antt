use Rattle.opfs_laws.proofs.separation.Twice.{no-trace}
use Rattle.opfs_laws.proofs.separation.apart.others_leave_no_trace.Goals as goal

pub returns : goal.returns
returns c = no-trace
