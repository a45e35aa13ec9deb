use Rattle.std.proofs.Common.{sym, ap, ◌∙◌, arith}
use Rattle.opfs_hall.specs.History.{Onward}
use Rattle.opfs_hall.proofs.Seats.{joins_kept}
use Rattle.opfs_hall.proofs.watch.Watch.join.Goals as goal

pub join_seat-requires : goal.join_seat-requires
join_seat-requires g c =
    let from = c.into_place.ensures in
    let idle = from.placed.idle (from.inside ∙ c.requires.idle) in (
      c.self.invariant.placed.table ∙ ap (λ h. h.id) (ap (λ w. w.pass.hall) c.self.view_is ∙ (c.requires.own.0 ∙ sym c.hall.view_is)),
      from.placed.table ∙ ap (λ h. h.id) (c.requires.own.1 ∙ sym c.hall.view_is),
      idle.1,
      let words = c.hall.invariant.0 in omega arith,
      joins_kept g.V.Chronicle.opening g.V.Chronicle.entries g.V.Chronicle.owner (Onward g.V.Chronicle.entries g.V.Chronicle.goes_on) _ _ _ _ _ _ _ from.placed.number c.requires.agent idle.0 (from.inside ∙ c.requires.idle),
    )
