use Rattle.opfs_dump.proofs.dumping.Putting.{dumps_nothing}
use Rattle.opfs_dump.proofs.dumping.dumping.put_all_rows.Goals as goal

pub returns-in-Err : goal.returns-in-Err
returns-in-Err g c =
    let laws = g.met.D.Disk in
    dumps_nothing g.D.Disk g.K.Sink laws.falls c.args.journal.now c.args.sink.now _
