use Rattle.opfs_books.proofs.laws.Settling.{pages-keep}
use Rattle.opfs_books.proofs.laws.laws.pages_beside_leave_the_books.Goals as goal

pub returns : goal.returns
returns g c =
    let laws = g.met.D.Disk in
    pages-keep g.D.Disk c.commit_laws.ensures laws.counted
