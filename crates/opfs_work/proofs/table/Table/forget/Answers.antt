use Rattle.std.proofs.Common.{arith}
use Rattle.opfs_work.proofs.OnePage.{forgot_more}
use Rattle.opfs_work.proofs.table.Table.forget.Goals as goal

pub loop-page-preserved : goal.loop-page-preserved
loop-page-preserved c = (
  forgot_more _ _ _ _ _ c.loop-page.invariant.0 c.loop-page.auto.page (omega (arith, c.loop-page.invariant.0.lengths, c.requires, c.loop-page-test.true)) c.let_go.ensures,
  omega (arith, c.loop-page-test.true),
)

pub returns-clause-far : goal.returns-clause-far
returns-clause-far c = λ k above below. c.loop-page.invariant.0.far k above (omega (arith, c.loop-page-test.false))

pub returns-clause-others : goal.returns-clause-others
returns-clause-others c = λ k out. c.loop-page.invariant.0.others k (λ above below. out above (omega (arith, c.loop-page.invariant.1)))
