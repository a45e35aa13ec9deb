use Rattle.opfs_books.proofs.laws.Settling.{settling, unsettled, settling-shows}
use Rattle.opfs_books.proofs.laws.laws.settling_keeps_the_books.Goals as goal

pub returns-clause-settled : goal.returns-clause-settled
returns-clause-settled g c =
    let laws = g.met.D.Disk in
    settling g.D.Disk c.commit_laws.ensures laws.counted

pub returns-clause-unsettled : goal.returns-clause-unsettled
returns-clause-unsettled g c =
    let laws = g.met.D.Disk in
    unsettled g.D.Disk c.commit_laws.ensures laws.counted

pub returns-clause-shown : goal.returns-clause-shown
returns-clause-shown g c =
    let laws = g.met.D.Disk in
    settling-shows g.D.Disk c.commit_laws.ensures laws.counted
