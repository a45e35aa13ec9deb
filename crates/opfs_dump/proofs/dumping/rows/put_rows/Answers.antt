use Rattle.std.proofs.Common.{ℕ, true, false, List, sym, subst}
use Rattle.opfs_base.specs.Places.{Place}
use Rattle.opfs_image.specs.Filling.{filled_row}
use Rattle.opfs_tree.specs.Rows.{Rows, rows_above}
use Rattle.opfs_tools.specs.Reading.{Lies}
use Rattle.opfs_tools.proofs.Digesting.{stands, fewer, lies_next}
use Rattle.opfs_dump.specs.Dumping.Pieces.{rest_text, row_text, tail_text}
use Rattle.opfs_dump.proofs.dumping.Putting.{dumps_puts, last_dumped, more_placed, failed_placed}
use Rattle.opfs_dump.proofs.dumping.Rests.{rest_more, rest_none}
use Rattle.opfs_dump.proofs.dumping.rows.put_rows.Goals as goal

pub put_next-requires-clause-stands : goal.put_next-requires-clause-stands
put_next-requires-clause-stands g c = stands c.step.new.walk (rows_above c.loop-row.walk c.args.tree.now) c.args.tree.now c.in-Some.row.now c.in-Some.ensures.next

pub put_next-requires-clause-lies : goal.put_next-requires-clause-lies
put_next-requires-clause-lies g c =
    let at = c.loop-row.invariant in
    subst (λ (end : ℕ). Lies c.args.base end c.in-Some.row.now) (sym at.so_far.reads.stays.length)
    (lies_next c.args.base (g.D.Disk.size c.args.journal.now.disk) c.step.new.walk (rows_above c.loop-row.walk c.args.tree.now) c.args.tree.now c.in-Some.row.now c.in-Some.ensures.next at.lies).0

pub loop-row-smaller : goal.loop-row-smaller
loop-row-smaller g c = fewer c.step.new.walk (rows_above c.loop-row.walk c.args.tree.now) c.args.tree.now c.in-Some.row.now c.in-Some.ensures.next

pub loop-row-preserved : goal.loop-row-preserved
loop-row-preserved g c =
    let laws = g.met.D.Disk in
    let at = c.loop-row.invariant in
    let base = c.args.base in
    let later = c.loop-row.later in
    let above : Rows = rows_above c.loop-row.walk c.args.tree.now in
    let rest : Rows = rows_above c.step.new.walk c.args.tree.now in
    let r = c.in-Some.row.now in
    record {
      lies = (lies_next base (g.D.Disk.size c.args.journal.now.disk) c.step.new.walk above c.args.tree.now r c.in-Some.ensures.next at.lies).1;
      so_far = more_placed g.D.Disk g.K.Sink laws.falls tt c.args.journal.now c.loop-row.journal c.put_next.new.journal c.args.sink.now c.loop-row.sink c.put_next.new.sink c.step.new.walk
          (λ (x : List ℕ). rest_text false base x c.args.tree.now) (λ (x : List ℕ). rest_text later base x above) (λ (x : List ℕ). rest_text true base x rest)
          (λ (p : Place) (x : List ℕ). row_text later (p, filled_row base x r))
          (stands c.step.new.walk above c.args.tree.now r c.in-Some.ensures.next) at.so_far (rest_more later base c.step.new.walk above c.args.tree.now r c.in-Some.ensures.next) c.in-Ok.ensures;
    }

pub returns-in-Err : goal.returns-in-Err
returns-in-Err g c =
    let laws = g.met.D.Disk in
    let at = c.loop-row.invariant in
    let base = c.args.base in
    let later = c.loop-row.later in
    let above : Rows = rows_above c.loop-row.walk c.args.tree.now in
    let rest : Rows = rows_above c.step.new.walk c.args.tree.now in
    let r = c.in-Some.row.now in
    failed_placed g.D.Disk g.K.Sink laws.falls _ c.in-Err.stop c.args.journal.now c.loop-row.journal c.put_next.new.journal c.args.sink.now c.loop-row.sink c.put_next.new.sink c.step.new.walk
    (λ (x : List ℕ). rest_text false base x c.args.tree.now) (λ (x : List ℕ). rest_text later base x above) (λ (x : List ℕ). rest_text true base x rest)
    (λ (p : Place) (x : List ℕ). row_text later (p, filled_row base x r))
    (stands c.step.new.walk above c.args.tree.now r c.in-Some.ensures.next) at.so_far (rest_more later base c.step.new.walk above c.args.tree.now r c.in-Some.ensures.next) c.in-Err.ensures

pub returns : goal.returns
returns g c =
    let laws = g.met.D.Disk in
    let base = c.args.base in
    let later = c.loop-row.later in
    let above : Rows = rows_above c.loop-row.walk c.args.tree.now in
    last_dumped g.D.Disk g.K.Sink laws.falls c.put_text.result c.args.journal.now c.loop-row.journal c.loop-row.journal c.args.sink.now c.loop-row.sink c.put_text.new.sink
    (λ (x : List ℕ). rest_text false base x c.args.tree.now) (λ (x : List ℕ). rest_text later base x above) (λ (x : List ℕ). tail_text) c.loop-row.invariant.so_far
    (λ x. rest_none later base x above c.in_default.ensures.end.0)
    (dumps_puts g.D.Disk g.K.Sink laws.falls c.loop-row.journal c.loop-row.sink c.put_text.new.sink tail_text c.put_text.result c.put_text.ensures)
