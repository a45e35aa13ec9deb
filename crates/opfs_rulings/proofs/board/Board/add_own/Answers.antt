use Rattle.opfs_rulings.specs.Known.{IsAgent}
use Rattle.opfs_rulings.proofs.Totals.{kept_added}
use Rattle.opfs_rulings.proofs.Courses.{courses-added}
use Rattle.opfs_rulings.proofs.board.Board.add_own.Goals as goal

pub invariant_of-self-2 : goal.invariant_of-self-2
invariant_of-self-2 c =
    let agent : IsAgent c.self.inside.state c.args.number = rw c.self.view_is c.requires in
    record {
      kept = kept_added c.self.inside.state c.add_own.new.state c.args.number agent c.self.inside.tally c.self.invariant.kept c.args.row c.own_origin.result.now c.weigh_own.result
          c.take-old.result c.raised-tally.result c.take-old.ensures.value c.in_ok-add_own.ensures.ok c.own_origin.ensures c.weigh_own.ensures c.raised-tally.ensures;
      followed = courses-added c.self.inside.state c.add_own.new.state c.self.inside.courses.items c.self.invariant.followed c.args.number agent c.args.row c.in_ok-add_own.ensures.ok;
    }
