use Rattle.opfs_laws.proofs.files.Held.{open-file-stays}
use Rattle.opfs_laws.proofs.files.staying.an_open_file_stays.Goals as goal

pub returns : goal.returns
returns c = open-file-stays
