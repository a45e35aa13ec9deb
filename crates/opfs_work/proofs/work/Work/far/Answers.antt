use Rattle.std.proofs.Common.{◌∙◌, arith}
use Rattle.opfs_work.proofs.Holding.{work_far}
use Rattle.opfs_work.proofs.Changing.{far_none}
use Rattle.opfs_work.proofs.work.Work.far.Goals as goal

pub invariant_of-result : goal.invariant_of-result
invariant_of-result c = (
  work_far _ _ _ _ (c.in_ok-table.ensures.length ∙ c.blocks-2.ensures) c.in_ok-table.ensures.room (λ k below. c.in_ok-table.ensures.far k (omega (arith, c.blocks-2.ensures))),
  far_none c.in_ok-table.table.pages _ _ (λ k below. c.in_ok-table.ensures.far k (omega (arith, c.in_ok-table.ensures.length))),
)
