use Rattle.std.proofs.Common.{sym}
use Rattle.opfs_base.specs.Places.{child_name}
use Rattle.opfs_rulings.proofs.Courses.{child-new}
use Rattle.opfs_rulings.proofs.course.add_child.Goals as goal

pub returns : goal.returns
returns c =
    child-new (child_name c.args.dir.now c.args.place.now) c.in-Some.name.now _ c.args.given.now c.args.left.now c.insert.new.self (sym c.in-Some.ensures) (sym c.if-contains.ensures) c.in_ok-copy.ensures c.in_ok-insert.ensures.updates.0
