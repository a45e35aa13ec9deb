use Rattle.std.proofs.Common.{Some, ap, refl, sym, ◌∙◌}
use Rattle.opfs_hall.proofs.Lent.{placed-as}
use Rattle.opfs_hall.proofs.watch.Watch.leave.Goals as goal

pub invariant_of-result : goal.invariant_of-result
invariant_of-result g c = record {
  placed = placed-as _ _ _ _ _ (sym c.of.ensures) refl (c.give.ensures.placed 0 (placed-as _ _ _ _ _ c.requires.own c.requires.owner c.apart-value.ensures.seat.placed));
  inside = c.give.ensures.inside;
  seen = c.give.ensures.last ∙ ap (λ (x : g.row.V.Denot). Some x) (sym c.of-last.ensures);
}
