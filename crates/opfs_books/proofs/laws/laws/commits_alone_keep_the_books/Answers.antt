use Rattle.opfs_books.proofs.laws.Settling.{committed-alone, failed-alone, alone-shows}
use Rattle.opfs_books.proofs.laws.laws.commits_alone_keep_the_books.Goals as goal

pub returns-clause-committed : goal.returns-clause-committed
returns-clause-committed g c =
    let laws = g.met.D.Disk in
    committed-alone g.D.Disk c.commit_laws.ensures laws.counted

pub returns-clause-failed : goal.returns-clause-failed
returns-clause-failed g c =
    let laws = g.met.D.Disk in
    failed-alone g.D.Disk c.commit_laws.ensures laws.counted

pub returns-clause-shown : goal.returns-clause-shown
returns-clause-shown g c =
    let laws = g.met.D.Disk in
    alone-shows g.D.Disk c.commit_laws.ensures laws.counted
