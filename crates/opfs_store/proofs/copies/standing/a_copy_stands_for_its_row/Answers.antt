use Rattle.opfs_store.proofs.copies.Copying.{copies-stand}
use Rattle.opfs_store.proofs.copies.standing.a_copy_stands_for_its_row.Goals as goal

pub returns : goal.returns
returns c = copies-stand
