use Rattle.std.proofs.Common.{List, refl, sym, ap, subst, ◌∙◌, arith}
use Rattle.std.specs.Prelude.{is_none}
use Rattle.opfs_hall.specs.History.{GrowsByOthers, Onward}
use Rattle.opfs_hall.proofs.Lent.{at-rest, grows-seen, placed-as, placed-behind}
use Rattle.opfs_hall.proofs.Seats.{follows_kept, shadows_kept}
use Rattle.opfs_hall.specs.Turns.{seat_of}
use Rattle.opfs_hall.proofs.hall.Hall.enter_behind.Goals as goal

pub split_seat-shadow-requires : goal.split_seat-shadow-requires
split_seat-shadow-requires g c = (
  c.watch.invariant.placed.table ∙ ap (λ h. h.id) (ap (λ w. w.pass.hall) c.watch.view_is ∙ (c.requires.own.1 ∙ sym c.self.view_is)),
  let words = c.self.invariant.0 in omega arith,
  shadows_kept g.V.Chronicle.opening g.V.Chronicle.entries g.V.Chronicle.owner (Onward g.V.Chronicle.entries g.V.Chronicle.goes_on) _ _ _ _,
)

pub join_seat-requires : goal.join_seat-requires
join_seat-requires g c =
    let is = sym c.take.ensures.value ∙ c.unwrap-seat.ensures in
    let mine = at-rest c.pass.inside.seat c.pass.inside.lent.value c.unwrap-seat.result c.pass.inside.hall.value c.pass.inside.agent is c.pass.invariant in
    let inside = ap (λ o. (seat_of o c.pass.inside.lent.value).me.0.inside) (sym is) ∙ c.pass.invariant.inside in
    let split = c.split_seat-shadow.ensures in (
      mine.table ∙ ap (λ h. h.id) (ap (λ p. p.hall) c.pass.view_is ∙ (c.requires.own.0 ∙ sym c.self.view_is)),
      split.3 ∙ c.watch.invariant.placed.table ∙ ap (λ h. h.id) (ap (λ w. w.pass.hall) c.watch.view_is ∙ (c.requires.own.1 ∙ sym c.self.view_is)),
      ap (λ m. m.1) split.4,
      let words = c.self.invariant.0 in omega arith,
      follows_kept g.V.Chronicle.opening g.V.Chronicle.entries g.V.Chronicle.owner (Onward g.V.Chronicle.entries g.V.Chronicle.goes_on) _ _ _ _ _ _ c.watch.inside.seat.me.0 (ap (λ m. m.0) split.4) (inside ∙ ap is_none is),
    )

pub turn_of-turn-requires-clause-placed : goal.turn_of-turn-requires-clause-placed
turn_of-turn-requires-clause-placed g c =
    let is = sym c.take.ensures.value ∙ c.unwrap-seat.ensures in
    let mine = at-rest c.pass.inside.seat c.pass.inside.lent.value c.unwrap-seat.result c.pass.inside.hall.value c.pass.inside.agent is c.pass.invariant in
    let joined = c.join_seat.ensures in
    placed-as _ _ _ _ _ (ap (λ p. p.hall) c.pass.view_is ∙ c.requires.own.0) refl (placed-behind _ _ _ _ _ joined.0 joined.2 mine)

pub returns-clause-grows : goal.returns-clause-grows
returns-clause-grows g c =
    let is = sym c.take.ensures.value ∙ c.unwrap-seat.ensures in
    grows-seen g.V.Chronicle.owner c.pass.inside.seat c.pass.inside.lent.value c.unwrap-seat.result c.pass.inside.hall.value c.pass.inside.agent c.args.pass.now _ is c.pass.view_is
    (subst (λ (base : List g.row.V-Entry.Denot). GrowsByOthers g.V.Chronicle.owner c.pass.inside.agent base (g.V.Chronicle.entries c.turn_of-turn.result.value)) (ap (λ m. m.0.base) c.join_seat.ensures.2)
    c.turn_of-turn.ensures.grows)
