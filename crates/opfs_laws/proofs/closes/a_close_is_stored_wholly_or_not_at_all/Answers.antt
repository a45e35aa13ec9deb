use Rattle.opfs_laws.proofs.Closed.{each-file}
use Rattle.opfs_laws.proofs.closes.a_close_is_stored_wholly_or_not_at_all.Goals as goal

pub returns : goal.returns
returns c = each-file
