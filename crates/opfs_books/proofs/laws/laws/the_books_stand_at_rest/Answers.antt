use Rattle.opfs_books.proofs.laws.Settling.{stands-rest}
use Rattle.opfs_books.proofs.laws.laws.the_books_stand_at_rest.Goals as goal

pub returns : goal.returns
returns g c =
    let laws = g.met.D.Disk in
    stands-rest g.D.Disk c.commit_laws.ensures laws.counted
