use Rattle.opfs_books.proofs.laws.Committing.{committed-call, committed-eviction, failed-commit}
use Rattle.opfs_books.proofs.laws.Settling.{commits-show}
use Rattle.opfs_books.proofs.laws.laws.commits_keep_the_books.Goals as goal

pub returns-clause-call : goal.returns-clause-call
returns-clause-call g c =
    let laws = g.met.D.Disk in
    committed-call c.state_laws.ensures g.D.Disk c.commit_laws.ensures laws.counted

pub returns-clause-eviction : goal.returns-clause-eviction
returns-clause-eviction g c =
    let laws = g.met.D.Disk in
    committed-eviction c.state_laws.ensures g.D.Disk c.commit_laws.ensures laws.counted

pub returns-clause-failed : goal.returns-clause-failed
returns-clause-failed g c =
    let laws = g.met.D.Disk in
    failed-commit c.state_laws.ensures g.D.Disk c.commit_laws.ensures laws.counted

pub returns-clause-shown : goal.returns-clause-shown
returns-clause-shown g c =
    let laws = g.met.D.Disk in
    commits-show g.D.Disk c.commit_laws.ensures laws.counted
