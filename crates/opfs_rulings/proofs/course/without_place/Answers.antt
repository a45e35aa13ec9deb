use Rattle.std.proofs.Common.{inl, inr, refl, sym, ◌∙◌}
use Rattle.opfs_rulings.proofs.Courses.{name-gone}
use Rattle.opfs_rulings.proofs.course.without_place.Goals as goal

pub returns-in_default : goal.returns-in_default
returns-in_default c = inr (record { rest = refl; child = sym c.in_default.ensures; within = sym c.is_within.ensures ∙ c.if-is_within.false })

pub returns : goal.returns
returns c = inl (record {
  name = c.in-Some.name.now;
  child = sym c.in-Some.ensures;
  rest = refl;
  left = name-gone c.in-Some.name.now c.in-Some.name.now c.args.course.left c.remove.new.self refl c.remove.ensures.updates.0;
})
