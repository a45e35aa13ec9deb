use Rattle.std.proofs.Common.{List, None, sym, subst}
use Rattle.opfs_books.specs.Laws.Books.{AreBooks}
use Rattle.opfs_hist.specs.declared.entry.Entry.{Entry}
use Rattle.opfs_books.specs.Seen.{book}
use Rattle.opfs_books.proofs.Starts.{starts}
use Rattle.opfs_books.proofs.books.Books.make.Goals as goal

pub returns-in-Ok-clause-books : goal.returns-in-Ok-clause-books
returns-in-Ok-clause-books g c f recorded is =
    let m = g.S.Shared.machine c.args.state in
    let t = g.S.Shared.tree c.args.state in
    subst (λ (h : List Entry). AreBooks g.D.Disk f recorded (book h m t c.in-Ok.commits None) c.make.new.journal) (sym c.make-in-Ok.ensures)
    (starts g.D.Disk c.commit_laws.ensures f recorded m t c.args.area c.args.journal.now is
    c.make.new.journal c.in-Ok.commits c.in-Ok.ensures.journal c.in-Ok.ensures.spare c.in-Ok.ensures.nothing)
