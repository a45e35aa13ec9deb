use Rattle.std.proofs.Common.{List, ℕ, ◌++◌, ap}
use Rattle.opfs_base.specs.declared.extents.Extent.{Extent}
use Rattle.opfs_data.specs.Places.{bytes_of}
use Rattle.opfs_dump.specs.Dumping.Pieces.{digits_text}
use Rattle.opfs_dump.proofs.dumping.Putting.{dumps_puts, first_failed, then_dumps}
use Rattle.opfs_dump.proofs.dumping.rows.put_content.Goals as goal

pub returns-in-Ok : goal.returns-in-Ok
returns-in-Ok g c =
    let laws = g.met.D.Disk in
    then_dumps g.D.Disk g.K.Sink laws.falls tt c.put_text.result c.args.journal.now c.put_runs.new.journal c.put_runs.new.journal c.args.sink.now c.put_runs.new.sink c.put_text.new.sink _ _
    (λ (x : List ℕ). digits_text (bytes_of x c.args.base c.args.file.now.extents c.args.file.now.length) ++ c.args.behind.now)
    c.in-Ok.ensures (dumps_puts g.D.Disk g.K.Sink laws.falls c.put_runs.new.journal c.put_runs.new.sink c.put_text.new.sink c.args.behind.now c.put_text.result c.put_text.ensures)
    (λ x. ap (λ (es : List Extent). digits_text (bytes_of x c.args.base es c.args.file.now.length) ++ c.args.behind.now) c.as_slice-extents.ensures)

pub returns-in-Err : goal.returns-in-Err
returns-in-Err g c =
    let laws = g.met.D.Disk in
    first_failed g.D.Disk g.K.Sink laws.falls c.in-Err.stop c.args.journal.now c.put_runs.new.journal c.args.sink.now c.put_runs.new.sink _ (λ x. c.args.behind.now)
    (λ (x : List ℕ). digits_text (bytes_of x c.args.base c.args.file.now.extents c.args.file.now.length) ++ c.args.behind.now)
    c.in-Err.ensures (λ x. ap (λ (es : List Extent). digits_text (bytes_of x c.args.base es c.args.file.now.length) ++ c.args.behind.now) c.as_slice-extents.ensures)
