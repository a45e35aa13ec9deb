use Rattle.opfs_laws.proofs.steady.Others.{others-leave-row}
use Rattle.opfs_laws.proofs.steady.settling.others_leave_a_row.Goals as goal

pub returns : goal.returns
returns c = others-leave-row
