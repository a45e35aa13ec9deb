use Rattle.std.proofs.Common.{refl, sym, ◌∙◌}
use Rattle.opfs_hall.proofs.Lent.{placed-as}
use Rattle.opfs_hall.proofs.hall.Hall.leave.Goals as goal

pub invariant_of-pass : goal.invariant_of-pass
invariant_of-pass g c = record {
  placed = placed-as _ _ _ _ _ (sym ((λ i. (c.pass.view_is i).hall) ∙ c.requires.own)) ((λ i. (c.requires.entered i).agent) ∙ sym (λ i. (c.pass.view_is i).agent))
      (c.give.ensures.placed _ (placed-as _ _ _ _ _ ((λ i. (c.requires.entered i).hall) ∙ c.requires.own) refl c.apart-value.ensures.seat.placed));
  inside = c.give.ensures.inside;
}
