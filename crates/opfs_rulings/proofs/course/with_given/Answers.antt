use Rattle.std.proofs.Common.{refl}
use Rattle.opfs_rulings.proofs.Courses.{name-gone, name-more}
use Rattle.opfs_rulings.proofs.course.with_given.Goals as goal

pub returns : goal.returns
returns c = record {
  rest = refl;
  given = name-more _ c.args.name.now c.args.course.given c.insert.new.self c.in_ok-copy.ensures c.in_ok-insert.ensures.updates.0;
  left = name-gone c.args.name.now c.args.name.now c.args.course.left c.remove.new.self refl c.remove.ensures.updates.0;
}
