use Rattle.opfs_state.proofs.laws.Judging.{judged-noted}
use Rattle.opfs_state.proofs.laws.judged.notes_decide_nothing.Goals as goal

pub returns : goal.returns
returns c = λ m k sum z op agent. judged-noted m k sum z op agent
