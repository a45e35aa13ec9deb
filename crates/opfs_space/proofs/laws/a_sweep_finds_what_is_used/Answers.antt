use Rattle.opfs_space.proofs.Sweeping.{swept}
use Rattle.opfs_space.proofs.laws.a_sweep_finds_what_is_used.Goals as goal

pub returns : goal.returns
returns c = λ size files pages space. swept size files pages space
