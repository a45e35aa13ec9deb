use Rattle.std.proofs.Common.{sym, refl, ◌∙◌}
use Rattle.opfs_hall.proofs.Lent.{at-rest, grows-seen, placed-as}
use Rattle.opfs_hall.proofs.hall.Hall.enter.Goals as goal

pub turn_of-turn-requires-clause-placed : goal.turn_of-turn-requires-clause-placed
turn_of-turn-requires-clause-placed g c =
    let is = sym c.take.ensures.value ∙ c.unwrap-seat.ensures in
    placed-as _ _ _ _ _ ((λ i. (c.pass.view_is i).hall) ∙ c.requires.own) refl (at-rest c.pass.inside.seat c.pass.inside.lent.value c.unwrap-seat.result c.pass.inside.hall.value c.pass.inside.agent is c.pass.invariant)

pub returns-clause-grows : goal.returns-clause-grows
returns-clause-grows g c =
    let is = sym c.take.ensures.value ∙ c.unwrap-seat.ensures in
    grows-seen g.V.Chronicle.owner c.pass.inside.seat c.pass.inside.lent.value c.unwrap-seat.result c.pass.inside.hall.value c.pass.inside.agent c.args.pass.now _ is c.pass.view_is c.turn_of-turn.ensures.grows
