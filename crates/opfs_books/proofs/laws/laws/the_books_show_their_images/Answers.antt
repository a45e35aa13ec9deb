use Rattle.opfs_books.proofs.laws.Settling.{books-show}
use Rattle.opfs_books.proofs.laws.laws.the_books_show_their_images.Goals as goal

pub returns : goal.returns
returns g c =
    let laws = g.met.D.Disk in
    books-show g.D.Disk c.commit_laws.ensures laws.counted
