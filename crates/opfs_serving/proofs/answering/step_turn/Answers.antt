use Rattle.std.proofs.Common.{[], ◌∷◌, ◌++◌, refl}
use Rattle.opfs_serving.proofs.Steps.{has-made, shown-pass}
use Rattle.opfs_serving.specs.Seats.{with_steps}
use Rattle.opfs_serving.specs.Served.{words}
use Rattle.opfs_serving.proofs.answering.step_turn.Goals as goal

pub ask-requires-clause-midway : goal.ask-requires-clause-midway
ask-requires-clause-midway g c =
    let free = c.requires.free in
    let at = c.requires.midway free.agent free.there in
    (at.0, at.1, free.agent, free.there, at.2, free.room)

pub returns-then-not-ask-clause-missed : goal.returns-then-not-ask-clause-missed
returns-then-not-ask-clause-missed g c = λ is. record {
  ends = c.ask.ensures.stops c.if-not-ask.true;
  watch = refl;
  port_is = refl;
  progress = refl;
}

pub show-requires-clause-there : goal.show-requires-clause-there
show-requires-clause-there g c =
    let free = c.requires.free in
    let at = c.requires.midway free.agent free.there in
    let found = c.ask.ensures.goes c.if-not-ask.false at.0 at.1 free.agent free.there at.2 in
    (found.0, found.1, found.2.hall)

pub tell_turn-now-requires-clause-own : goal.tell_turn-now-requires-clause-own
tell_turn-now-requires-clause-own g c =
    let free = c.requires.free in
    let at = c.requires.midway free.agent free.there in
    (shown-pass g.S.Store.tells c.args.hall.now at.0 (with_steps at.1 (at.1.steps ++ c.args.step.now ∷ [])) c.ask.new.seat c.args.watch c.show.new.watch c.requires.own c.show.ensures.noted
    (c.ask.ensures.goes c.if-not-ask.false at.0 at.1 free.agent free.there at.2)).0

pub tell_turn-now-requires-clause-owner : goal.tell_turn-now-requires-clause-owner
tell_turn-now-requires-clause-owner g c =
    let free = c.requires.free in
    let at = c.requires.midway free.agent free.there in
    (shown-pass g.S.Store.tells c.args.hall.now at.0 (with_steps at.1 (at.1.steps ++ c.args.step.now ∷ [])) c.ask.new.seat c.args.watch c.show.new.watch c.requires.own c.show.ensures.noted
    (c.ask.ensures.goes c.if-not-ask.false at.0 at.1 free.agent free.there at.2)).1

pub returns-clause-made : goal.returns-clause-made
returns-clause-made g c = λ is.
    let free = c.requires.free in
    let at = c.requires.midway free.agent free.there in
    has-made (words g.S.Chronicle.opening g.S.Store.opened g.S.Chronicle.entries g.S.Store.keeps g.S.Chronicle.goes_on g.S.Store.tells g.P.Port.tells g.P.Port.said g.P.Port.faults)
    c.args.hall.now c.args.step.now c.args.seat.now c.ask.new.seat c.show.new.seat c.args.watch c.show.new.watch c.tell_turn-now.result c.args.port.now c.tell_turn-now.new.port
    c.args.progress.now c.tell_turn-now.new.progress at.0 at.1 free.agent free.there at.2
    (c.ask.ensures.goes c.if-not-ask.false) c.show.ensures.same c.show.ensures.noted c.show.ensures.last (c.ask.ensures.awaits c.if-not-ask.false) c.tell_turn-now.ensures.turned c.tell_turn-now.ensures.told
