use Rattle.opfs_state.proofs.laws.Readying.{ready-apart}
use Rattle.opfs_state.proofs.laws.readied.what_is_ready_is_apart.Goals as goal

pub returns : goal.returns
returns c = λ s own more k op unit mine other ready. ready-apart s own more k op unit mine other ready
