use Rattle.std.proofs.Common.{refl}
use Rattle.opfs_work.specs.declared.pages.Page.TheVariants.{Far}
use Rattle.opfs_work.proofs.Changing.{work_put, between_put}
use Rattle.opfs_work.proofs.work.Work.let_go.Goals as goal

pub invariant_of-self : goal.invariant_of-self
invariant_of-self c =
    let there = rw (← c.self.view_is) at c.requires in
    rw c.let_go.ensures (
      work_put c.self.inside.table.pages _ c.self.inside.table.room c.self.inside.length c.self.inside.reserve c.args.page (Far) c.self.invariant.0 there refl (λ j zero. refl),
      between_put c.self.inside.table.pages _ _ _ c.args.page (Far) c.self.invariant.1 there refl (λ is. absurd cc),
    )
