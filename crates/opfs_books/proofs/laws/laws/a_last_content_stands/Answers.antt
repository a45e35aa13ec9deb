use Rattle.opfs_books.proofs.laws.Settling.{stands-last}
use Rattle.opfs_books.proofs.laws.laws.a_last_content_stands.Goals as goal

pub returns : goal.returns
returns g c =
    let laws = g.met.D.Disk in
    stands-last g.D.Disk c.commit_laws.ensures laws.counted
