use Rattle.std.proofs.Common.{List, ℕ}
use Rattle.serde_json.specs.Written.{comma_if, compact_text}
use Rattle.opfs_base.specs.Places.{Place}
use Rattle.opfs_image.specs.Filling.{filled_row}
use Rattle.opfs_dump.specs.Text.Texts.{row_value}
use Rattle.opfs_dump.proofs.dumping.Putting.{then_placed, first_placed}
use Rattle.opfs_dump.proofs.dumping.rows.put_next.Goals as goal

pub returns-in-Ok : goal.returns-in-Ok
returns-in-Ok g c =
    let laws = g.met.D.Disk in
    then_placed g.D.Disk g.K.Sink laws.falls tt c.put_row.result c.args.journal.now c.put_row.new.journal c.args.sink.now c.put_comma.new.sink c.put_row.new.sink c.args.placed.now.walk.now (comma_if c.args.later)
    (λ (at : Place) (x : List ℕ). compact_text (row_value (at, filled_row c.args.placed.now.base x c.args.placed.now.row.now))) c.in-Ok.ensures c.put_row.ensures

pub returns-in-Err : goal.returns-in-Err
returns-in-Err g c =
    let laws = g.met.D.Disk in
    first_placed g.D.Disk g.K.Sink laws.falls _ c.in-Err.stop c.args.journal.now c.args.sink.now c.put_comma.new.sink c.args.placed.now.walk.now (comma_if c.args.later)
    (λ (at : Place) (x : List ℕ). compact_text (row_value (at, filled_row c.args.placed.now.base x c.args.placed.now.row.now))) c.in-Err.ensures
