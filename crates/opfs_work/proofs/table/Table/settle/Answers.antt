use Rattle.std.proofs.Common.{arith}
use Rattle.opfs_work.proofs.OnePage.{settled_more}
use Rattle.opfs_work.proofs.table.Table.settle.Goals as goal

pub loop-page-preserved : goal.loop-page-preserved
loop-page-preserved c = (
  settled_more _ _ _ _ _ c.loop-page.invariant.0 c.loop-page.auto.page c.settle_page.ensures.length c.settle_page.ensures.room c.settle_page.ensures.settled c.settle_page.ensures.others,
  omega (arith, c.loop-page-test.true),
)

pub returns-clause-settled : goal.returns-clause-settled
returns-clause-settled c = λ k above below. c.loop-page.invariant.0.settled k above (omega (arith, c.loop-page-test.false))

pub returns-clause-others : goal.returns-clause-others
returns-clause-others c = λ k out. c.loop-page.invariant.0.others k (λ above below. out above (omega (arith, c.loop-page.invariant.1)))
