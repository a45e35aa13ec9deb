use Rattle.std.proofs.Common.{Some, None, refl, sym, ap, ◌∙◌, subst}
use Rattle.std.specs.Option.{option_copied_mut}
use Rattle.opfs_serving.proofs.Parts.{in-parts}
use Rattle.opfs_serving.specs.Seats.{IsMidway}
use Rattle.opfs_serving.proofs.asking.make.Goals as goal

pub returns-clause-goes : goal.returns-clause-goes
returns-clause-goes g c = λ is k asked a there at.
    let copied = sym (ap option_copied_mut c.in-Some.is) ∙ c.as_mut.ensures.value in
    let free = ap (λ x. x.awaits) c.seat.view_is ∙ c.requires.free in (
      c.make_call.new.agent,
      refl {a = Some c.make_call.new.agent},
      subst (IsMidway g.S.Store.tells c.args.hall.now k _ c.make_call.new.agent c.make_call.new.rows.items c.make_call.new.hand) (sym free)
          (c.make_call.ensures.goes is k asked (in-parts g.S.Store.tells c.args.hall.now k asked _ c.args.seat.now a c.in-Some.agent.now None c.seat.view_is there copied c.requires.free at)),
    )

pub returns-clause-stops : goal.returns-clause-stops
returns-clause-stops g c = λ is k asked a there at.
    let copied = sym (ap option_copied_mut c.in-Some.is) ∙ c.as_mut.ensures.value in (
      c.make_call.new.agent,
      refl {a = Some c.make_call.new.agent},
      c.make_call.ensures.stops is k asked (in-parts g.S.Store.tells c.args.hall.now k asked _ c.args.seat.now a c.in-Some.agent.now None c.seat.view_is there copied c.requires.free at),
    )
