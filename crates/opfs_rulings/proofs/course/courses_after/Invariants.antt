use Rattle.std.proofs.Common.{vec_len}
use Rattle.opfs_rulings.specs.Courses.{Becomes}
use Rattle.opfs_rulings.proofs.Moving.{Moves}
use Rattle.opfs_rulings.proofs.course.courses_after.Given as goal

abbrev pub invariant-loop-course : goal.invariant-loop-course
invariant-loop-course l = Moves (Becomes l.event) l.initial.left.items l.left.items l.moved.items

abbrev pub decreases-loop-course : goal.decreases-loop-course
decreases-loop-course l = vec_len l.left
