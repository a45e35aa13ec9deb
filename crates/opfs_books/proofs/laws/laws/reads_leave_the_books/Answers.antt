use Rattle.opfs_books.proofs.laws.Settling.{reads-keep}
use Rattle.opfs_books.proofs.laws.laws.reads_leave_the_books.Goals as goal

pub returns : goal.returns
returns g c =
    let laws = g.met.D.Disk in
    reads-keep g.D.Disk c.commit_laws.ensures laws.counted
