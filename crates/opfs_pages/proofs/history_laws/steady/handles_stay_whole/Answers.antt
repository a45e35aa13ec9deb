use Rattle.opfs_pages.proofs.history_laws.HandlesWhole.{handles-stay}
use Rattle.opfs_pages.proofs.history_laws.steady.handles_stay_whole.Goals as goal

pub returns : goal.returns
returns c = handles-stay
