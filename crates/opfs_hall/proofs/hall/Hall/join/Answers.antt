use Rattle.std.proofs.Common.{sym, ap, ◌∙◌, arith}
use Rattle.std.specs.Option.{option_copied_mut}
use Rattle.opfs_hall.specs.History.{Onward}
use Rattle.opfs_hall.proofs.Lent.{at-rest}
use Rattle.opfs_hall.proofs.Seats.{joins_kept}
use Rattle.opfs_hall.proofs.hall.Hall.join.Goals as goal

pub join_seat-requires : goal.join_seat-requires
join_seat-requires g c =
    let from = c.into_place.ensures in
    let is = sym c.as_mut.ensures.value ∙ ap option_copied_mut c.unwrap-seat.ensures in
    let mine = at-rest c.into.inside.seat c.into.inside.lent.value c.unwrap-seat.result.now c.into.inside.hall.value c.into.inside.agent is c.into.invariant in
    let idle = from.placed.idle (from.inside ∙ c.requires.idle.1) in (
      mine.table ∙ ap (λ h. h.id) (ap (λ p. p.hall) c.into.view_is ∙ (c.requires.own.0 ∙ sym c.self.view_is)),
      from.placed.table ∙ ap (λ h. h.id) (c.requires.own.1 ∙ sym c.self.view_is),
      idle.1,
      let words = c.self.invariant.0 in omega arith,
      joins_kept g.V.Chronicle.opening g.V.Chronicle.entries g.V.Chronicle.owner (Onward g.V.Chronicle.entries g.V.Chronicle.goes_on) _ _ _ _ _ _ _ from.placed.number c.requires.agent idle.0 (from.inside ∙ c.requires.idle.1),
    )
