use Rattle.opfs_commit.proofs.Writing.{record_done, record_stopped, record_moments}
use Rattle.opfs_commit.proofs.laws.records_are_written.Goals as goal

pub returns-clause-durable : goal.returns-clause-durable
returns-clause-durable g s told a own next built old new ready is =
    let laws = g.met.D.Disk in
    record_done g.D.Disk (laws.full told) (laws.whole told) (laws.falls told) a own next built old new ready.images ready.to_store ready.settled is.journal.stays.length (is.journal.told told) is.journal.stays.areas is.journal.sure is.none

pub returns-clause-in_doubt : goal.returns-clause-in_doubt
returns-clause-in_doubt g s told a own next built old new ready is =
    let laws = g.met.D.Disk in
    record_stopped g.D.Disk (laws.full told) (laws.whole told) (laws.falls told) a own next built old new ready.images ready.to_store ready.settled is.journal.stays.length (is.journal.told told) is.journal.stays.areas is.same

pub returns-clause-shown : goal.returns-clause-shown
returns-clause-shown g s told a own next built old new ready stays one =
    let laws = g.met.D.Disk in
    record_moments g.D.Disk (laws.full told) (laws.whole told) (laws.falls told) a own next built old new ready.images ready.to_store ready.settled stays.length one
