use Rattle.opfs_laws.proofs.lengths.Adding.{units-add}
use Rattle.opfs_laws.proofs.lengths.kept.units_add_up.Goals as goal

pub returns : goal.returns
returns c = units-add
