use Rattle.std.proofs.Common.{inl, refl}
use Rattle.opfs_rulings.proofs.Moving.{pushed}
use Rattle.opfs_rulings.proofs.course.keep.Goals as goal

pub returns-in_default : goal.returns-in_default
returns-in_default c = inl refl

pub returns : goal.returns
returns c = pushed c.args.courses.now.items c.push.new.self.items c.args.course c.in-Some.course c.push.result c.in-Some.is c.push.ensures.items
