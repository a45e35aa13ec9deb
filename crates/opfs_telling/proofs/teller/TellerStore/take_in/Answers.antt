use Rattle.std.proofs.Common.{length, drop, sym, ap, subst, ◌∙◌}
use Rattle.opfs_telling.specs.Telling.{IsTold}
use Rattle.opfs_telling.proofs.teller.TellerStore.take_in.Goals as goal

pub invariant_of-self : goal.invariant_of-self
invariant_of-self g c =
    let more = c.take_in.ensures.entries in
    let given = c.give_out-taken in
    subst (λ h. IsTold g.K.Sink c.self.inside.begun.value c.tell.new.sink c.tell.new.progress h) (sym (ap g.S.Chronicle.entries given.ensures.kept ∙ more))
    (c.tell.ensures.told c.self.inside.begun.value (g.S.Chronicle.entries c.self.inside.store) c.args.pending.now (given.ensures.entries ∙ ap (λ h. drop given.result.place h) more) (given.ensures.place ∙ ap (λ h. length h) more) c.self.invariant)
