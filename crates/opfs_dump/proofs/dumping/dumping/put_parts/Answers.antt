use Rattle.std.proofs.Common.{false, refl}
use Rattle.opfs_dump.specs.Dumping.Pieces.{rest_text}
use Rattle.opfs_dump.proofs.dumping.Putting.{dumps_puts, first_failed, then_dumps}
use Rattle.opfs_dump.proofs.dumping.dumping.put_parts.Goals as goal

pub returns-in-Ok : goal.returns-in-Ok
returns-in-Ok g c =
    let laws = g.met.D.Disk in
    then_dumps g.D.Disk g.K.Sink laws.falls tt c.put_all_rows.result c.args.journal.now c.args.journal.now c.put_all_rows.new.journal c.args.sink.now c.put_head.new.sink c.put_all_rows.new.sink _ _ _
    (dumps_puts g.D.Disk g.K.Sink laws.falls c.args.journal.now c.args.sink.now c.put_head.new.sink _ _ c.in-Ok.ensures) c.put_all_rows.ensures (λ x. refl)

pub returns-in-Err : goal.returns-in-Err
returns-in-Err g c =
    let laws = g.met.D.Disk in
    first_failed g.D.Disk g.K.Sink laws.falls c.in-Err.stop c.args.journal.now c.args.journal.now c.args.sink.now c.put_head.new.sink _ (λ x. rest_text false c.args.base x c.args.tree.now) _
    (dumps_puts g.D.Disk g.K.Sink laws.falls c.args.journal.now c.args.sink.now c.put_head.new.sink _ _ c.in-Err.ensures) (λ x. refl)
