use Rattle.std.proofs.Common.{subst, sym}
use Rattle.std.specs.Prelude.{IfSome}
use Rattle.opfs_rulings.specs.Courses.{Becomes}
use Rattle.opfs_rulings.specs.declared.course.Event.{Event}
use Rattle.opfs_rulings.proofs.course.course_after.Goals as goal

pub returns-in-Made : goal.returns-in-Made
returns-in-Made c = subst (λ (e : Event). IfSome c.with_child.result (Becomes e c.args.course)) (sym c.in-Made.is) c.with_child.ensures

pub returns-in-Removed : goal.returns-in-Removed
returns-in-Removed c = subst (λ (e : Event). IfSome c.without_place.result (Becomes e c.args.course)) (sym c.in-Removed.is) c.without_place.ensures

pub returns-in-Gave : goal.returns-in-Gave
returns-in-Gave c = subst (λ (e : Event). IfSome c.passed.result (Becomes e c.args.course)) (sym c.in-Gave.is) c.passed.ensures

pub returns-in-Swapped : goal.returns-in-Swapped
returns-in-Swapped c = subst (λ (e : Event). IfSome c.other.result (Becomes e c.args.course)) (sym c.in-Swapped.is) c.other.ensures
