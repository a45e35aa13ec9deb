use Rattle.std.proofs.Common.{sym, ◌∙◌, subst}
use Rattle.opfs_serving.proofs.Parts.{awaits-at, missed-at, room-of}
use Rattle.opfs_serving.specs.Seats.{IsLeftOpen}
use Rattle.opfs_serving.proofs.asking.ask.Goals as goal

pub returns-in-Await-clause-goes : goal.returns-in-Await-clause-goes
returns-in-Await-clause-goes g c = λ is k asked a there at.
    let m = c.requires.midway in
    awaits-at g.S.Store.tells c.args.hall.now k asked a c.args.seat.now c.begin_await.new.seat there c.requires.free at
    (room-of g.S.Store.tells c.args.hall.now c.args.seat.now a m.2 59900000 there m.3 m.5) c.args.step.now c.in-Await.tag c.in-Await.is (c.begin_await.ensures.goes is)

pub returns-in-Await-clause-stops : goal.returns-in-Await-clause-stops
returns-in-Await-clause-stops g c = λ is k asked a there at.
    let m = c.requires.midway in
    missed-at g.S.Store.tells c.args.hall.now k asked a c.args.seat.now c.begin_await.new.seat there c.requires.free at
    (room-of g.S.Store.tells c.args.hall.now c.args.seat.now a m.2 59900000 there m.3 m.5) c.args.step.now (c.begin_await.ensures.stops is)

pub returns-in_default : goal.returns-in_default
returns-in_default g c = record {
  goes = c.make.ensures.goes;
  stops = c.make.ensures.stops;
  awaits = λ is. subst (IsLeftOpen c.args.step.now) (sym (c.make.ensures.awaits ∙ c.requires.free)) tt;
}
