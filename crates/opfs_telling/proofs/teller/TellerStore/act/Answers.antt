use Rattle.std.proofs.Common.{length, drop, sym, ap, subst, ◌∙◌}
use Rattle.opfs_telling.specs.Telling.{IsTold}
use Rattle.opfs_telling.proofs.Growing.{grown}
use Rattle.opfs_telling.proofs.teller.TellerStore.act.Goals as goal

pub invariant_of-self : goal.invariant_of-self
invariant_of-self g c =
    let more = grown c.act-acted.result _ _ _ _ _ c.act-acted.ensures.served c.act-acted.ensures.unserved in
    let given = c.give_out-given in
    subst (λ h. IsTold g.K.Sink c.self.inside.begun.value c.tell.new.sink c.tell.new.progress h) (sym (ap g.S.Chronicle.entries given.ensures.kept ∙ more.1))
    (c.tell.ensures.told c.self.inside.begun.value (g.S.Chronicle.entries c.self.inside.store) more.0 (given.ensures.entries ∙ ap (λ h. drop given.result.place h) more.1) (given.ensures.place ∙ ap (λ h. length h) more.1) c.self.invariant)
