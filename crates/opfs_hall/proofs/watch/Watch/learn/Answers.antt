use Rattle.std.proofs.Common.{sym, ap, ◌∙◌, arith}
use Rattle.std.specs.Option.{option_copied_mut}
use Rattle.opfs_hall.specs.History.{Onward}
use Rattle.opfs_hall.proofs.Lent.{at-rest}
use Rattle.opfs_hall.proofs.Seats.{shadows_kept, learns_kept}
use Rattle.opfs_hall.proofs.watch.Watch.learn.Goals as goal

pub split_seat-shadow-requires : goal.split_seat-shadow-requires
split_seat-shadow-requires g c =
    let is = sym c.as_mut.ensures.value ∙ ap option_copied_mut c.unwrap-seat.ensures in
    let theirs = at-rest c.pass.inside.seat c.pass.inside.lent.value c.unwrap-seat.result.now c.pass.inside.hall.value c.pass.inside.agent is c.pass.invariant in (
      theirs.table ∙ ap (λ h. h.id) (ap (λ p. p.hall) c.pass.view_is ∙ (c.requires.own.1 ∙ sym c.hall.view_is)),
      let words = c.hall.invariant.0 in omega arith,
      shadows_kept g.V.Chronicle.opening g.V.Chronicle.entries g.V.Chronicle.owner (Onward g.V.Chronicle.entries g.V.Chronicle.goes_on) _ _ _ _,
    )

pub join_seat-requires : goal.join_seat-requires
join_seat-requires g c =
    let is = sym c.as_mut.ensures.value ∙ ap option_copied_mut c.unwrap-seat.ensures in
    let theirs = at-rest c.pass.inside.seat c.pass.inside.lent.value c.unwrap-seat.result.now c.pass.inside.hall.value c.pass.inside.agent is c.pass.invariant in
    let split = c.split_seat-shadow.ensures in (
      c.self.invariant.placed.table ∙ ap (λ h. h.id) (ap (λ w. w.pass.hall) c.self.view_is ∙ (c.requires.own.0 ∙ sym c.hall.view_is)),
      split.3 ∙ theirs.table ∙ ap (λ h. h.id) (ap (λ p. p.hall) c.pass.view_is ∙ (c.requires.own.1 ∙ sym c.hall.view_is)),
      ap (λ m. m.1) split.4,
      let words = c.hall.invariant.0 in omega arith,
      learns_kept g.V.Chronicle.opening g.V.Chronicle.entries g.V.Chronicle.owner (Onward g.V.Chronicle.entries g.V.Chronicle.goes_on) _ _ _ _ _ _ c.unwrap-seat.result.now.me.0 (ap (λ m. m.0) split.4) c.self.invariant.placed.number c.self.invariant.inside,
    )
