use Rattle.opfs_rulings.specs.Courses.{Becomes}
use Rattle.opfs_rulings.proofs.Moving.{moves-begin, moves-on}
use Rattle.opfs_rulings.proofs.course.courses_after.Goals as goal

pub loop-course-init : goal.loop-course-init
loop-course-init c = moves-begin (Becomes c.args.event.now) c.args.courses.items c.new-moved.result.items c.new-moved.ensures.items

pub loop-course-preserved : goal.loop-course-preserved
loop-course-preserved c =
    moves-on (Becomes c.args.event.now) c.args.courses.items c.loop-course.left.items c.pop.new.self.items c.loop-course.moved.items c.keep.new.courses.items c.in-Some.course c.course_after.result
    c.loop-course.invariant c.in-Some.ensures.items c.course_after.ensures c.keep.ensures
