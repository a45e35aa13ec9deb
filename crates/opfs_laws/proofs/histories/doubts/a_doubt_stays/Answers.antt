use Rattle.opfs_laws.proofs.histories.Doubting.{doubt}
use Rattle.opfs_laws.proofs.histories.doubts.a_doubt_stays.Goals as goal

pub returns : goal.returns
returns c = doubt
