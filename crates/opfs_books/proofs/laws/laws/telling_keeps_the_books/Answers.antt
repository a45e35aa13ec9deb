use Rattle.opfs_books.proofs.laws.Entering.{tells-keep}
use Rattle.opfs_books.proofs.laws.Pending.{pending-keeps}
use Rattle.opfs_books.proofs.laws.laws.telling_keeps_the_books.Goals as goal

pub returns-clause-entry : goal.returns-clause-entry
returns-clause-entry g c = tells-keep g.D.Disk

pub returns-clause-pending : goal.returns-clause-pending
returns-clause-pending g c = pending-keeps c.state_laws.ensures g.D.Disk
