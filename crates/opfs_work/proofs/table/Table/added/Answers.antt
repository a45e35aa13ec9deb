use Rattle.std.proofs.Common.{arith, sym, ◌∙◌}
use Rattle.opfs_work.proofs.Copying.{added-none, added-some, counted_more, counted_all}
use Rattle.opfs_work.proofs.table.Table.added.Goals as goal

pub returns-then-len-eq0-clause-added : goal.returns-then-len-eq0-clause-added
returns-then-len-eq0-clause-added c = sym (added-none c.args.self.now.pages c.args.at c.args.len c.if-len-eq0.true)

pub loop-page-preserved : goal.loop-page-preserved
loop-page-preserved c =
    let more = counted_more c.args.self.now.pages c.loop-page.page _ c.loop-page.count _ (omega (arith, c.loop-page-test.true, c.blocks-page-end.ensures)) c.loop-page.invariant.0 in
    (omega (arith, more, c.absent-count.ensures), omega (arith, c.loop-page.invariant.1, c.absent-count.ensures))

pub returns-clause-added : goal.returns-clause-added
returns-clause-added c =
    counted_all c.args.self.now.pages c.loop-page.page _ c.loop-page.count _ (omega (arith, c.loop-page-test.false, c.blocks-page-end.ensures)) c.loop-page.invariant.0
    ∙ sym (added-some c.args.self.now.pages c.args.at c.args.len c.if-len-eq0.false)
