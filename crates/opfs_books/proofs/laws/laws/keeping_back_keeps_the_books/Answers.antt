use Rattle.opfs_books.proofs.laws.Committing.{kept-back}
use Rattle.opfs_books.proofs.laws.laws.keeping_back_keeps_the_books.Goals as goal

pub returns : goal.returns
returns g c =
    let laws = g.met.D.Disk in
    kept-back c.state_laws.ensures g.D.Disk c.commit_laws.ensures laws.counted
