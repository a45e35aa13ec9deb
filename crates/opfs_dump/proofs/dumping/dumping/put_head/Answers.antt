use Rattle.opfs_dump.proofs.dumping.Putting.{puts_nothing}
use Rattle.opfs_dump.proofs.dumping.dumping.put_head.Goals as goal

pub returns-in-Err : goal.returns-in-Err
returns-in-Err g c = puts_nothing g.K.Sink c.args.sink.now _
