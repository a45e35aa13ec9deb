use Rattle.std.proofs.Common.{[], sym, ap, ◌∙◌, append-nil, arith}
use Rattle.opfs_serving.proofs.telling.tell_turn.Goals as goal

pub leave-requires-clause-adds : goal.leave-requires-clause-adds
leave-requires-clause-adds g c = (
  [],
  ap g.S.Chronicle.entries c.tell_entries.ensures.store ∙ sym (ap (λ p. p.base) c.enter-turn.ensures.entered) ∙ sym (append-nil c.enter-turn.result.entered.value.base),
  λ k d less. absurd (omega (arith, less)),
)
