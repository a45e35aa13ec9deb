use Rattle.opfs_books.proofs.laws.Pending.{state-kept}
use Rattle.opfs_books.proofs.laws.laws.the_state_is_kept.Goals as goal

pub returns : goal.returns
returns g c = state-kept c.state_laws.ensures g.D.Disk
