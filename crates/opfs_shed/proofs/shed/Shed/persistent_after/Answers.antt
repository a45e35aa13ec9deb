use Rattle.std.proofs.Common.{refl, ◌∙◌, None, Some, true}
use Rattle.std.specs.Ordering.{is_lt}
use Rattle.opfs_base.specs.Texts.{Text}
use Rattle.opfs_shed.specs.Buckets.{text_cmp}
use Rattle.opfs_shed.proofs.Firsts.{first_past}
use Rattle.opfs_shed.proofs.shed.Shed.persistent_after.Goals as goal
use Rattle.opfs_shed.proofs.shed.Shed.persistent_after.Goals.{in-None, in-Some}

pub loop-unit-init : goal.loop-unit-init
loop-unit-init c =
    let iterator_is = c.into_iter-unit-iterator.ensures.into_iter_gives in
    elim c.match-key.branch [
      | in-None w ↦
          rw (← c.self.view_is, w.in-None.is)
          (first_past None c.self.inside.buckets.entries _ (λ (u : Text). true) (λ u. refl) (iterator_is ∙ (rw w.start-is at c.range-unit-items.ensures.between) tt))
      | in-Some w ↦
          rw (← c.self.view_is, w.in-Some.is)
          (first_past (Some w.in-Some.key.now) c.self.inside.buckets.entries _ (λ (u : Text). is_lt (text_cmp w.in-Some.key.now u)) (λ u. refl) (iterator_is ∙ (rw w.start-is at c.range-unit-items.ensures.between) tt))
    ]
