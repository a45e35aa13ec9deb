use Rattle.std.proofs.Common.{◌<◌, ◌/◌, length, refl, ap, arith, ◌∙◌}
use Rattle.opfs_work.specs.Pages.{Table, page_at, as_changed}
use Rattle.opfs_work.proofs.OnePage.{changed-byte}
use Rattle.opfs_work.proofs.Changing.{work_put, between_put, woken}
use Rattle.opfs_work.proofs.work.Work.wake.Goals as goal

pub invariant_of-self : goal.invariant_of-self
invariant_of-self c =
    let there : c.self.inside.length / 4096 < length c.self.inside.table.pages = omega (arith, c.self.invariant.0.pages_are, c.if-self-eq0.false) in
    let marked = rw (← c.self.view_is) at c.requires in
    rw c.touch.ensures (
      work_put c.self.inside.table.pages _ c.self.inside.table.room c.self.inside.length c.self.inside.reserve (c.self.inside.length / 4096) (as_changed (page_at c.self.inside.table.pages (c.self.inside.length / 4096))) c.self.invariant.0 there refl
          (λ j zero. changed-byte 0 (page_at c.self.inside.table.pages (c.self.inside.length / 4096)) j ∙ zero),
      between_put c.self.inside.table.pages _ _ _ (c.self.inside.length / 4096) (as_changed (page_at c.self.inside.table.pages (c.self.inside.length / 4096))) c.self.invariant.1 there refl
          (λ _. marked (omega (arith, c.if-to-self.false)) (omega (arith, c.if-self-eq0.false))),
    )

pub returns-clause-bytes : goal.returns-clause-bytes
returns-clause-bytes c =
    let there : c.self.inside.length / 4096 < length c.self.inside.table.pages = omega (arith, c.self.invariant.0.pages_are, c.if-self-eq0.false) in
    rw (← c.self.view_is) (woken c.self.inside.table.pages c.touch.new.self.pages (c.self.inside.length / 4096) there (ap (λ (t : Table). t.pages) c.touch.ensures)).bytes

pub returns-clause-alike : goal.returns-clause-alike
returns-clause-alike c =
    let there : c.self.inside.length / 4096 < length c.self.inside.table.pages = omega (arith, c.self.invariant.0.pages_are, c.if-self-eq0.false) in
    rw (← c.self.view_is) (woken c.self.inside.table.pages c.touch.new.self.pages (c.self.inside.length / 4096) there (ap (λ (t : Table). t.pages) c.touch.ensures)).alike

pub returns-clause-near : goal.returns-clause-near
returns-clause-near c =
    let there : c.self.inside.length / 4096 < length c.self.inside.table.pages = omega (arith, c.self.invariant.0.pages_are, c.if-self-eq0.false) in
    rw (← c.self.view_is) (woken c.self.inside.table.pages c.touch.new.self.pages (c.self.inside.length / 4096) there (ap (λ (t : Table). t.pages) c.touch.ensures)).near
