use Rattle.std.proofs.Common.{◌≤◌, length, sym, subst}
use Rattle.opfs_serving.specs.Served.{AreAtRest, words}
use Rattle.opfs_serving.proofs.Polls.{GoesServing, going-more, going-turned, serving-few}
use Rattle.opfs_serving.proofs.conversing.settle.Given.{Over}
use Rattle.opfs_serving.proofs.conversing.settle.Goals as goal
use Rattle.opfs_serving.proofs.conversing.settle.Goals.{After-look_turn-now, After-poll_all-watch}

-- It stands once all was polled,
polled : (g : Over) (c : After-poll_all-watch g)
    → GoesServing (words g.S.Chronicle.opening g.S.Store.opened g.S.Chronicle.entries g.S.Store.keeps g.S.Chronicle.goes_on g.S.Store.tells g.P.Port.tells g.P.Port.said g.P.Port.faults) c.args.hall.now c.args.port.now c.poll_all-watch.new.port c.args.watch c.poll_all-watch.result
    c.args.table.now.seats.items c.poll_all-watch.new.table.seats.items c.args.table.now.progress c.poll_all-watch.new.table.progress
polled g c =
    let w = words g.S.Chronicle.opening g.S.Store.opened g.S.Chronicle.entries g.S.Store.keeps g.S.Chronicle.goes_on g.S.Store.tells g.P.Port.tells g.P.Port.said g.P.Port.faults in
    going-more w c.args.hall.now c.args.port.now c.loop.port c.poll_all-watch.new.port c.args.watch c.loop.watch c.poll_all-watch.result
    c.args.table.now.seats.items c.loop.table.seats.items c.poll_all-watch.new.table.seats.items c.args.table.now.progress c.loop.table.progress c.poll_all-watch.new.table.progress
    c.loop.invariant c.poll_all-watch.ensures.on_with

-- and once the owner's pass has looked.
looked : (g : Over) (c : After-look_turn-now g)
    → GoesServing (words g.S.Chronicle.opening g.S.Store.opened g.S.Chronicle.entries g.S.Store.keeps g.S.Chronicle.goes_on g.S.Store.tells g.P.Port.tells g.P.Port.said g.P.Port.faults) c.args.hall.now c.args.port.now c.poll_all-watch.new.port c.args.watch c.poll_all-watch.result
    c.args.table.now.seats.items c.poll_all-watch.new.table.seats.items c.args.table.now.progress c.poll_all-watch.new.table.progress
    → GoesServing (words g.S.Chronicle.opening g.S.Store.opened g.S.Chronicle.entries g.S.Store.keeps g.S.Chronicle.goes_on g.S.Store.tells g.P.Port.tells g.P.Port.said g.P.Port.faults) c.args.hall.now c.args.port.now c.poll_all-watch.new.port c.args.watch c.look_turn-now.result.0
    c.args.table.now.seats.items c.poll_all-watch.new.table.seats.items c.args.table.now.progress c.poll_all-watch.new.table.progress
looked g c before =
    let w = words g.S.Chronicle.opening g.S.Store.opened g.S.Chronicle.entries g.S.Store.keeps g.S.Chronicle.goes_on g.S.Store.tells g.P.Port.tells g.P.Port.said g.P.Port.faults in
    going-turned w c.args.hall.now g.S.Chronicle.lasts g.S.Chronicle.stays c.args.port.now c.poll_all-watch.new.port c.args.watch c.poll_all-watch.result c.look_turn-now.result.0
    c.args.table.now.seats.items c.poll_all-watch.new.table.seats.items c.args.table.now.progress c.poll_all-watch.new.table.progress
    before c.look_turn-now.ensures.turned

-- There are few seats.
few : (g : Over) (c : After-poll_all-watch g)
    → (length c.poll_all-watch.new.table.seats.items ≤ 64) × (length c.poll_all-watch.new.table.seats.items ≤ length (g.S.Store.opened c.args.hall.now.opening).agents)
few g c =
    let w = words g.S.Chronicle.opening g.S.Store.opened g.S.Chronicle.entries g.S.Store.keeps g.S.Chronicle.goes_on g.S.Store.tells g.P.Port.tells g.P.Port.said g.P.Port.faults in
    let s = (polled g c).serves in
    serving-few w g.S.Chronicle.lasts g.S.Chronicle.stays c.args.hall.now s.agents s.begun c.poll_all-watch.new.port c.poll_all-watch.result c.poll_all-watch.new.table.seats.items c.poll_all-watch.new.table.progress s.is

pub look_turn-now-requires-clause-own : goal.look_turn-now-requires-clause-own
look_turn-now-requires-clause-own g c = (polled g (goal.at.look_turn-now-requires-clause-own g c).After-poll_all-watch).serves.is.stands.hall

pub look_turn-now-requires-clause-owner : goal.look_turn-now-requires-clause-owner
look_turn-now-requires-clause-owner g c = (polled g (goal.at.look_turn-now-requires-clause-owner g c).After-poll_all-watch).serves.is.stands.owner

pub look_turn-now-requires-clause-few : goal.look_turn-now-requires-clause-few
look_turn-now-requires-clause-few g c = subst (λ xs. length xs ≤ 64) (sym c.as_slice.ensures.value) (few g (goal.at.look_turn-now-requires-clause-few g c).After-poll_all-watch).0

pub look_turn-now-requires-clause-all : goal.look_turn-now-requires-clause-all
look_turn-now-requires-clause-all g c =
    subst (λ xs. length xs ≤ length (g.S.Store.opened c.args.hall.now.opening).agents) (sym c.as_slice.ensures.value) (few g (goal.at.look_turn-now-requires-clause-all g c).After-poll_all-watch).1

pub loop-preserved : goal.loop-preserved
loop-preserved g c = looked g (goal.at.loop-preserved g c).After-look_turn-now (polled g (goal.at.loop-preserved g c).After-poll_all-watch)

pub returns-then-not-look-clause-on_with : goal.returns-then-not-look-clause-on_with
returns-then-not-look-clause-on_with g c =
    (looked g (goal.at.returns-then-not-look-clause-on_with g c).After-look_turn-now (polled g (goal.at.returns-then-not-look-clause-on_with g c).After-poll_all-watch)).on_with

pub returns-then-not-look-clause-quiet : goal.returns-then-not-look-clause-quiet
returns-then-not-look-clause-quiet g c = λ on. record {
  begun = c.poll_all-watch.ensures.begun on;
  rest =
      subst (λ xs. AreAtRest (g.S.Store.opened (g.S.Chronicle.opening c.look_turn-now.result.0.last)) (g.S.Chronicle.entries c.look_turn-now.result.0.last) xs) c.as_slice.ensures.value
      (c.look_turn-now.ensures.quiet c.if-not-look.true);
}
