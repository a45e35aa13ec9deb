use Rattle.std.proofs.Common.{refl, ap, ◌∙◌}
use Rattle.opfs_base.specs.Units.{origin_of}
use Rattle.opfs_rulings.proofs.Totals.{kept_swapped, kept_rows}
use Rattle.opfs_rulings.proofs.Courses.{courses-set}
use Rattle.opfs_rulings.proofs.board.Board.swap_row.Goals as goal

pub invariant_of-self : goal.invariant_of-self
invariant_of-self c =
    record {
      kept =
          kept_rows c.self.inside.state c.exchange_row-gone.new.state _ _ c.exchange_row-gone.ensures.rows
          (kept_swapped c.self.inside.state.rows _ c.self.inside.state.agents c.self.inside.state.persistent c.self.inside.tally c.take-old.result c.self.invariant.kept c.take-old.ensures.value
          c.args.place.now c.args.row c.exchange_row-gone.result c.args.at c.origin_of.result.now c.origin_of-2.result.now c.weigh_row.result c.weigh_row-2.result c.raised-tally.result c.lowered.result
          c.exchange_row-gone.ensures.old refl
          (c.origin_of.ensures ∙ ap origin_of c.as_bytes.ensures) c.weigh_row.ensures c.raised-tally.ensures
          (c.origin_of-2.ensures ∙ ap origin_of c.as_bytes-2.ensures) c.weigh_row-2.ensures c.lowered.ensures);
      followed = courses-set c.self.inside.state c.exchange_row-gone.new.state c.self.inside.courses.items c.self.invariant.followed c.args.place.now c.exchange_row-gone.result c.args.row c.args.at c.exchange_row-gone.ensures.old c.exchange_row-gone.ensures.rows;
    }
