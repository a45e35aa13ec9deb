use Rattle.opfs_journal.proofs.Walks.{only_more}
use Rattle.opfs_journal.proofs.reader.read_heads.Goals as goal

pub returns-in_err-second-clause-only : goal.returns-in_err-second-clause-only
returns-in_err-second-clause-only g c =
    let laws = g.met.D.Disk in
    only_more g.D.Disk laws.falls c.args.disk.now c.read.new.disk c.read-2.new.disk c.read.ensures.only c.read-2.ensures.only

pub returns-clause-only : goal.returns-clause-only
returns-clause-only g c =
    let laws = g.met.D.Disk in
    only_more g.D.Disk laws.falls c.args.disk.now c.read.new.disk c.read-2.new.disk c.read.ensures.only c.read-2.ensures.only
