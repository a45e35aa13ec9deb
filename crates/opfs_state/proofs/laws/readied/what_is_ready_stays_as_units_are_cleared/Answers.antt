use Rattle.opfs_state.proofs.laws.Readying.{ready-cleared}
use Rattle.opfs_state.proofs.laws.readied.what_is_ready_stays_as_units_are_cleared.Goals as goal

pub returns : goal.returns
returns c = λ s new own more k op unit mine other machine prepared ready. ready-cleared s new own more k op unit mine other machine prepared ready
