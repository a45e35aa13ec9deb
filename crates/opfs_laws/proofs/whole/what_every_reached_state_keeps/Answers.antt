use Rattle.opfs_laws.proofs.Reached.{whole}
use Rattle.opfs_laws.proofs.whole.what_every_reached_state_keeps.Goals as goal

pub returns : goal.returns
returns c = whole
