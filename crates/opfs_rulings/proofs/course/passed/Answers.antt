use Rattle.std.proofs.Common.{inl}
use Rattle.opfs_rulings.specs.Courses.{GivesOrStays, IsGivenBy}
use Rattle.opfs_rulings.proofs.Moving.{each-some}
use Rattle.opfs_rulings.proofs.course.passed.Goals as goal

pub returns : goal.returns
returns c =
    each-some (IsGivenBy c.args.agent c.args.row c.args.name.now c.args.course) (GivesOrStays c.args.agent c.args.row c.args.name.now c.args.course) (λ new by. inl by) c.with_end.result c.with_end.ensures
