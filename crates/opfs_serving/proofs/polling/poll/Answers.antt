use Rattle.std.proofs.Common.{Some, refl, sym, ap, ◌∙◌, subst}
use Rattle.std.specs.Option.{option_copied, option_copied_mut}
use Rattle.opfs_serving.proofs.Parts.{in-parts}
use Rattle.opfs_serving.specs.Seats.{IsMidway}
use Rattle.opfs_serving.proofs.polling.poll.Goals as goal

pub returns-in_default-as_ref-clause-goes : goal.returns-in_default-as_ref-clause-goes
returns-in_default-as_ref-clause-goes g c = λ k asked a there at.
    let copied = sym (ap option_copied_mut c.in-Some.is) ∙ c.as_mut.ensures.value in
    (c.in-Some.agent.now, refl {a = Some c.in-Some.agent.now}, in-parts g.S.Store.tells c.args.hall.now k asked _ c.args.seat.now a c.in-Some.agent.now c.seat.inside.awaits c.seat.view_is there copied (sym (ap (λ x. x.awaits) c.seat.view_is)) at)

pub returns-in_err-poll_agent-clause-goes : goal.returns-in_err-poll_agent-clause-goes
returns-in_err-poll_agent-clause-goes g c = λ k asked a there at.
    let copied = sym (ap option_copied_mut c.in-Some.is) ∙ c.as_mut.ensures.value in
    let tagged = sym (ap option_copied c.in-Some-as_ref.is) ∙ c.as_ref.ensures.value in (
      c.poll_agent.new.agent,
      refl {a = Some c.poll_agent.new.agent},
      subst (IsMidway g.S.Store.tells c.args.hall.now k asked c.poll_agent.new.agent c.seat.inside.rows.items c.seat.inside.hand) tagged
          (c.in_err-poll_agent.ensures.err k asked _ _
          (in-parts g.S.Store.tells c.args.hall.now k asked _ c.args.seat.now a c.in-Some.agent.now (Some c.in-Some-as_ref.tag.now) c.seat.view_is there copied (sym (ap (λ x. x.awaits) c.seat.view_is) ∙ sym tagged) at)),
    )

pub returns-then-not-branch-clause-goes : goal.returns-then-not-branch-clause-goes
returns-then-not-branch-clause-goes g c = λ k asked a there at.
    let copied = sym (ap option_copied_mut c.in-Some.is) ∙ c.as_mut.ensures.value in
    let tagged = sym (ap option_copied c.in-Some-as_ref.is) ∙ c.as_ref.ensures.value in (
      c.poll_agent.new.agent,
      refl {a = Some c.poll_agent.new.agent},
      subst (IsMidway g.S.Store.tells c.args.hall.now k asked c.poll_agent.new.agent c.seat.inside.rows.items c.seat.inside.hand) tagged
          (c.in_ok-poll_agent.ensures.waits c.if-not-branch.true k asked _ _
          (in-parts g.S.Store.tells c.args.hall.now k asked _ c.args.seat.now a c.in-Some.agent.now (Some c.in-Some-as_ref.tag.now) c.seat.view_is there copied (sym (ap (λ x. x.awaits) c.seat.view_is) ∙ sym tagged) at)),
    )

pub returns-clause-goes : goal.returns-clause-goes
returns-clause-goes g c = λ k asked a there at.
    let copied = sym (ap option_copied_mut c.in-Some.is) ∙ c.as_mut.ensures.value in
    let tagged = sym (ap option_copied c.in-Some-as_ref.is) ∙ c.as_ref.ensures.value in (
      c.poll_agent.new.agent,
      refl {a = Some c.poll_agent.new.agent},
      c.in_ok-poll_agent.ensures.answered c.if-not-branch.false k asked _ _
          (in-parts g.S.Store.tells c.args.hall.now k asked _ c.args.seat.now a c.in-Some.agent.now (Some c.in-Some-as_ref.tag.now) c.seat.view_is there copied (sym (ap (λ x. x.awaits) c.seat.view_is) ∙ sym tagged) at),
    )

pub returns-clause-there : goal.returns-clause-there
returns-clause-there g c = λ is. (c.in-Some.agent.now, sym (ap (λ x. x.agent) c.seat.view_is) ∙ sym (sym (ap option_copied_mut c.in-Some.is) ∙ c.as_mut.ensures.value))
