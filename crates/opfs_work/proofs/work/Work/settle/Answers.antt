use Rattle.std.proofs.Common.{ℕ, arith}
use Rattle.opfs_work.specs.Pages.{page_at, IsSettled}
use Rattle.opfs_work.proofs.OnePage.{settled-unchanged}
use Rattle.opfs_work.proofs.Changing.{work_settled, settled_zero, settled_all, between_none}
use Rattle.opfs_work.proofs.work.Work.settle.Goals as goal

pub invariant_of-self : goal.invariant_of-self
invariant_of-self c =
    let all : (k : ℕ) → IsSettled (page_at c.self.inside.table.pages k) (page_at c.settle.new.self.pages k) = λ k.
    settled_all c.self.inside.table.pages c.settle.new.self.pages c.self.inside.changed.from c.self.inside.changed.to k c.self.invariant.1
    (λ k above below. c.settle.ensures.settled k above (omega (arith, c.min-to.ensures, c.len.ensures.len)))
    (λ k out. c.settle.ensures.others k (λ above below. out above (omega (arith, c.min-to.ensures, c.len.ensures.len))))
    in (
      work_settled c.self.inside.table.pages c.settle.new.self.pages _ _ _ _ c.self.invariant.0 c.settle.ensures.room c.settle.ensures.length (settled_zero c.self.inside.table.pages c.settle.new.self.pages all),
      between_none c.settle.new.self.pages _ _ (λ k. settled-unchanged (page_at c.self.inside.table.pages k) (page_at c.settle.new.self.pages k) (all k)),
    )

pub returns-clause-pages : goal.returns-clause-pages
returns-clause-pages c = λ k.
    rw (← c.self.view_is)
    (settled_all c.self.inside.table.pages c.settle.new.self.pages c.self.inside.changed.from c.self.inside.changed.to k c.self.invariant.1
    (λ k above below. c.settle.ensures.settled k above (omega (arith, c.min-to.ensures, c.len.ensures.len)))
    (λ k out. c.settle.ensures.others k (λ above below. out above (omega (arith, c.min-to.ensures, c.len.ensures.len)))))
