use Rattle.std.proofs.Common.{[], sym, ap, ◌∙◌, subst, append-nil, arith, length}
use Rattle.opfs_serving.proofs.Peopled.{as-many}
use Rattle.opfs_serving.specs.Served.{AreAtRest}
use Rattle.opfs_serving.proofs.looking.look_turn.Goals as goal

pub any_needs_look-look-requires-clause-there : goal.any_needs_look-look-requires-clause-there
any_needs_look-look-requires-clause-there g c =
    let value = c.enter-turn.result.value in
    let many =
    as-many g.S.Store.tells (g.S.Store.opened (g.S.Chronicle.opening value)) (g.S.Chronicle.entries value) c.know_legal.ensures ∙ ap (λ o. length (g.S.Store.opened o).agents) c.enter-turn.ensures.opening in
    let all = c.requires.all in
    omega (arith, many, all)

pub leave-requires-clause-adds : goal.leave-requires-clause-adds
leave-requires-clause-adds g c = (
  [],
  sym (ap (λ p. p.base) c.enter-turn.ensures.entered) ∙ sym (append-nil c.enter-turn.result.entered.value.base),
  λ k d less. absurd (omega (arith, less)),
)

pub returns-clause-quiet : goal.returns-clause-quiet
returns-clause-quiet g c = λ is.
    subst (λ v. AreAtRest (g.S.Store.opened (g.S.Chronicle.opening v)) (g.S.Chronicle.entries v) c.args.seats.now) (sym c.leave.ensures.last) (c.any_needs_look-look.ensures.rest is)

pub returns-clause-look : goal.returns-clause-look
returns-clause-look g c = λ none.
    c.any_needs_look-look.ensures.look
    (subst (λ v. AreAtRest (g.S.Store.opened (g.S.Chronicle.opening v)) (g.S.Chronicle.entries v) c.args.seats.now) c.leave.ensures.last none)
