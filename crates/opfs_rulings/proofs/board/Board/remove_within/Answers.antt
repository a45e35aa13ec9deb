use Rattle.std.proofs.Common.{ap, refl}
use Rattle.opfs_rulings.proofs.Totals.{kept_removed, kept_rows}
use Rattle.opfs_rulings.proofs.Courses.{courses-removed}
use Rattle.opfs_rulings.proofs.board.Board.remove_within.Goals as goal

pub invariant_of-self : goal.invariant_of-self
invariant_of-self c =
    record {
      kept =
          kept_rows c.self.inside.state c.remove_in.new.state _ _ c.remove_in.ensures
          (kept_removed c.self.inside.state.rows _ c.self.inside.state.agents c.self.inside.state.persistent c.self.inside.tally c.take-old.result c.self.invariant.kept c.take-old.ensures.value
          c.args.place.now c.lowered_in-tally.result refl c.lowered_in-tally.ensures);
      followed = courses-removed c.self.inside.state c.remove_in.new.state c.self.inside.courses.items c.replace-followed.result.items c.courses_after-courses.result.items c.self.invariant.followed (ap (λ x. x.items) c.replace-followed.ensures.value) c.args.place.now c.remove_in.ensures c.courses_after-courses.ensures;
    }
