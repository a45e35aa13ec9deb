use Rattle.opfs_books.proofs.laws.Pending.{faults-counted}
use Rattle.opfs_books.proofs.laws.laws.a_fault_is_counted.Goals as goal

pub returns : goal.returns
returns g c =
    let laws = g.met.D.Disk in
    faults-counted c.state_laws.ensures g.D.Disk laws.counted
