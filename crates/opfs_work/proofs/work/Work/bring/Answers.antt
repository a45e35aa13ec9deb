use Rattle.std.proofs.Common.{◌≡◌, true, refl}
use Rattle.opfs_work.specs.declared.pages.Page.TheVariants.{Clean}
use Rattle.opfs_work.specs.Pages.{is_far, page_at}
use Rattle.opfs_work.proofs.Counts.{far_there}
use Rattle.opfs_work.proofs.Holding.{work_brought}
use Rattle.opfs_work.proofs.Changing.{between_put}
use Rattle.opfs_work.proofs.work.Work.bring.Goals as goal

pub invariant_of-self : goal.invariant_of-self
invariant_of-self c =
    let far : is_far (page_at c.self.inside.table.pages c.args.page) ≡ true = rw (← c.self.view_is) at c.requires.far in
    rw c.load.ensures (
      work_brought c.self.inside.table.pages _ c.self.inside.table.room c.self.inside.length c.self.inside.reserve c.args.page c.args.bytes.now c.self.invariant.0 far refl (rw (← c.self.view_is) at c.requires.tail),
      between_put c.self.inside.table.pages _ _ _ c.args.page (Clean c.args.bytes.now) c.self.invariant.1 (far_there c.self.inside.table.pages c.args.page far) refl (λ is. absurd cc),
    )
