use Rattle.std.proofs.Common.{◌∙◌, add-one, arith, drop, suc}
use Rattle.opfs_rulings.proofs.Here.{drop_here}
use Rattle.opfs_rulings.proofs.Courses.{left-next}
use Rattle.opfs_rulings.proofs.course.left_of.Goals as goal

pub loop-entry-preserved : goal.loop-entry-preserved
loop-entry-preserved c =
    rw add-one
    (λ x. left-next c.args.dir.now c.args.given.now c.loop-entry.left c.add_child.new.left (drop c.loop-entry.entry-index c.args.rows.now) c.entry-item.result (drop (suc c.loop-entry.entry-index) c.args.rows.now)
    (drop_here c.args.rows.now c.loop-entry.entry-index c.entry-item.result (omega arith) c.entry-item.is) c.in_ok-add_child.ensures x ∙ c.loop-entry.invariant x)
