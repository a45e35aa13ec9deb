use Rattle.opfs_state.proofs.laws.Readying.{ready-noted}
use Rattle.opfs_state.proofs.laws.readied.what_is_ready_stays_as_calls_are_noted.Goals as goal

pub returns : goal.returns
returns c = λ s own more k op sum agent ready. ready-noted s own more k op sum agent ready
