use Rattle.std.proofs.Common.{sym}
use Rattle.opfs_rulings.proofs.course.find_course.Goals as goal

pub returns-then-is_of-clause-among : goal.returns-then-is_of-clause-among
returns-then-is_of-clause-among c = (c.loop-course.course-index, c.loop-course-test.true, sym c.course-item.is)
