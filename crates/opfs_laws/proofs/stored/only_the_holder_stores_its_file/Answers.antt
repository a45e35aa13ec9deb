use Rattle.opfs_laws.proofs.Storing.{holder-stores}
use Rattle.opfs_laws.proofs.stored.only_the_holder_stores_its_file.Goals as goal

pub returns : goal.returns
returns c = holder-stores
