use Rattle.opfs_laws.proofs.lengths.Keeping.{lengths-kept}
use Rattle.opfs_laws.proofs.lengths.kept.lengths_are_kept.Goals as goal

pub returns : goal.returns
returns c = lengths-kept
