use Rattle.opfs_pages.proofs.row_calls.Ways.{cut-tail}
use Rattle.opfs_pages.proofs.row_calls.leave.cut.Goals as goal

pub returns-clause-tail : goal.returns-clause-tail
returns-clause-tail c = λ i past here. cut-tail c.args.buffer.now c.cut_page.new.into c.args.page c.args.size i c.requires.whole c.cut_page.ensures.cut past here
