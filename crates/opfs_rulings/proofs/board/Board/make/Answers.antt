use Rattle.std.proofs.Common.{refl}
use Rattle.opfs_rulings.specs.Courses.{IsCourse}
use Rattle.opfs_rulings.proofs.Moving.{all-none}
use Rattle.opfs_rulings.proofs.Totals.{nothing_kept}
use Rattle.opfs_rulings.proofs.board.Board.make.Goals as goal

pub invariant_of-result : goal.invariant_of-result
invariant_of-result c = record { kept = nothing_kept c.args.state _ c.requires.rows c.requires.own c.requires.modes refl refl c.in_ok-uses.ensures; followed = all-none (IsCourse c.args.state) c.new-courses.result.items c.new-courses.ensures.items }
