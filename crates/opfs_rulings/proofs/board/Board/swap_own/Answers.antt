use Rattle.std.proofs.Common.{ap}
use Rattle.opfs_machine.specs.Agents.{agent_of}
use Rattle.opfs_rulings.specs.Known.{IsAgent, IsOwn}
use Rattle.opfs_rulings.proofs.Totals.{kept_exchanged}
use Rattle.opfs_rulings.proofs.Courses.{courses-swapped}
use Rattle.opfs_rulings.proofs.board.Board.swap_own.Goals as goal

pub invariant_of-self : goal.invariant_of-self
invariant_of-self c =
    let agent : IsAgent c.self.inside.state c.args.number = rw c.self.view_is c.requires.agent in
    let own : IsOwn (agent_of c.self.inside.state c.args.number) c.args.row = rw c.self.view_is c.requires.row in
    record {
      kept =
          kept_exchanged c.self.inside.state c.exchange_own-gone.new.state c.args.number agent c.self.inside.tally c.self.invariant.kept c.args.row c.args.own c.exchange_own-gone.result
          c.own_origin.result.now c.own_origin-2.result.now c.weigh_own.result c.weigh_own-2.result c.take-old.result c.raised-tally.result c.lowered.result
          c.take-old.ensures.value c.exchange_own-gone.ensures.state c.exchange_own-gone.ensures.old
          c.own_origin.ensures c.weigh_own.ensures c.raised-tally.ensures c.own_origin-2.ensures c.weigh_own-2.ensures c.lowered.ensures;
      followed = courses-swapped c.self.inside.state c.exchange_own-gone.new.state c.self.inside.courses.items c.replace-followed.result.items c.courses_after-courses.result.items c.self.invariant.followed (ap (λ x. x.items) c.replace-followed.ensures.value) c.args.number agent c.args.row own.above c.args.own c.exchange_own-gone.ensures.state c.courses_after-courses.ensures;
    }
