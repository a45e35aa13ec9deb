use Rattle.std.proofs.Common.{ℕ, ◌≡◌, ◌++◌, Option, List, sym, ap, subst}
use Rattle.std.specs.Prelude.{IfSome}
use Rattle.opfs_base.specs.Places.{Place}
use Rattle.opfs_image.specs.Filling.{filled_row}
use Rattle.opfs_data.specs.declared.refusal.DataRefusal.TheVariants.{DiskFault}
use Rattle.opfs_data.proofs.CallLemmas.{reads_more, reads_nothing}
use Rattle.opfs_tree.specs.Rows.{rows_above}
use Rattle.opfs_tools.specs.Reading.{Lies, RowsLie, stored_lines}
use Rattle.opfs_tools.specs.Checking.{stored_line}
use Rattle.opfs_tools.proofs.Digesting.{rose_since, same_error, stands, fewer, lies_next, lines_more, lines_done}
use Rattle.opfs_tools.proofs.digests.add_rows.Goals as goal

pub loop-row-init : goal.loop-row-init
loop-row-init g c = record {
  lies = subst (λ (w : Option Place). RowsLie c.args.base (g.D.Disk.size c.args.journal.now.disk) (rows_above w c.args.tree.now)) (sym c.make-walk.ensures) c.requires.lies;
  reads = reads_nothing g.D.Disk (g.met.D.Disk).falls c.args.journal.now;
  text = λ told. ap (λ (w : Option Place). c.args.text.now.items ++ stored_lines c.args.base (g.D.Disk.content c.args.journal.now.disk) (rows_above w c.args.tree.now)) c.make-walk.ensures;
}

pub add_row-requires-clause-stands : goal.add_row-requires-clause-stands
add_row-requires-clause-stands g c = stands c.step.new.walk (rows_above c.loop-row.walk c.args.tree.now) c.args.tree.now c.in-Some.row.now c.in-Some.ensures.next

pub add_row-requires-clause-lies : goal.add_row-requires-clause-lies
add_row-requires-clause-lies g c =
    let at = c.loop-row.invariant in
    subst (λ (end : ℕ). Lies c.args.base end c.in-Some.row.now) (sym at.reads.stays.length)
    (lies_next c.args.base (g.D.Disk.size c.args.journal.now.disk) c.step.new.walk (rows_above c.loop-row.walk c.args.tree.now) c.args.tree.now c.in-Some.row.now c.in-Some.ensures.next at.lies).0

pub loop-row-smaller : goal.loop-row-smaller
loop-row-smaller g c = fewer c.step.new.walk (rows_above c.loop-row.walk c.args.tree.now) c.args.tree.now c.in-Some.row.now c.in-Some.ensures.next

pub loop-row-preserved : goal.loop-row-preserved
loop-row-preserved g c =
    let laws = g.met.D.Disk in
    let at = c.loop-row.invariant in
    let f = c.in_ok-add_row.ensures in
    record {
      lies = (lies_next c.args.base (g.D.Disk.size c.args.journal.now.disk) c.step.new.walk (rows_above c.loop-row.walk c.args.tree.now) c.args.tree.now c.in-Some.row.now c.in-Some.ensures.next at.lies).1;
      reads = reads_more g.D.Disk laws.falls c.args.journal.now c.loop-row.journal c.add_row.new.journal at.reads f.reads;
      text = λ told.
          lines_more c.args.base (g.D.Disk.content c.args.journal.now.disk) c.step.new.walk (rows_above c.loop-row.walk c.args.tree.now) c.args.tree.now c.in-Some.row.now c.loop-row.text.items c.add_row.new.text.items _
          c.in-Some.ensures.next
          (subst (λ (x : List ℕ). IfSome c.step.new.walk (λ place. c.add_row.new.text.items ≡ c.loop-row.text.items ++ stored_line (place, filled_row c.args.base x c.in-Some.row.now))) (at.reads.told told).same (f.added told))
          (at.text told);
    }

pub returns-in_err-add_row-clause-reads : goal.returns-in_err-add_row-clause-reads
returns-in_err-add_row-clause-reads g c =
    let laws = g.met.D.Disk in
    let at = c.loop-row.invariant in
    reads_more g.D.Disk laws.falls c.args.journal.now c.loop-row.journal c.add_row.new.journal at.reads c.add_row.ensures.reads

pub returns-in_err-add_row-clause-cause : goal.returns-in_err-add_row-clause-cause
returns-in_err-add_row-clause-cause g c = λ failed.
    let e = c.in_err-add_row.field-0.0 in
    rose_since (g.D.Disk.faults c.args.journal.now.disk) (g.D.Disk.faults c.loop-row.journal.disk) (g.D.Disk.faults c.add_row.new.journal.disk) c.loop-row.invariant.reads.later
    (c.in_err-add_row.ensures.cause (same_error c.from_residual.result e DiskFault c.from_residual.ensures.1 failed))

pub returns-clause-added : goal.returns-clause-added
returns-clause-added g c = λ told. lines_done c.args.base (g.D.Disk.content c.args.journal.now.disk) (rows_above c.loop-row.walk c.args.tree.now) c.loop-row.text.items _ c.in_default.ensures.end.0 (c.loop-row.invariant.text told)
