use Rattle.std.proofs.Common.{refl, sym, ◌∙◌}
use Rattle.opfs_work.specs.Pages.{page_at, as_kept}
use Rattle.opfs_work.proofs.OnePage.{kept-byte, kept-unchanged}
use Rattle.opfs_work.proofs.Copying.{true_false}
use Rattle.opfs_work.proofs.Changing.{work_put, between_put}
use Rattle.opfs_work.proofs.work.Work.keep.Goals as goal

pub invariant_of-self : goal.invariant_of-self
invariant_of-self c =
    let there = rw (← c.self.view_is) at c.requires in
    rw c.keep.ensures (
      work_put c.self.inside.table.pages _ c.self.inside.table.room c.self.inside.length c.self.inside.reserve c.args.page (as_kept (page_at c.self.inside.table.pages c.args.page)) c.self.invariant.0 there refl (λ j zero. kept-byte 0 (page_at c.self.inside.table.pages c.args.page) j ∙ zero),
      between_put c.self.inside.table.pages _ _ _ c.args.page (as_kept (page_at c.self.inside.table.pages c.args.page)) c.self.invariant.1 there refl (λ is. absurd (true_false (sym is ∙ kept-unchanged (page_at c.self.inside.table.pages c.args.page)))),
    )
