use Rattle.std.proofs.Common.{arith}
use Rattle.opfs_pages.proofs.PageBytes.{cut_bytes, filled_bytes}
use Rattle.opfs_pages.proofs.bytes.cut_page.Goals as goal

pub returns-clause-cut : goal.returns-clause-cut
returns-clause-cut c = λ old is.
    cut_bytes old c.args.into.now c.clear.new.bytes c.args.page c.args.size c.min-offset.result (omega (arith, c.min-offset.ensures, c.saturating_sub.ensures)) c.clear.ensures.before c.clear.ensures.behind c.clear.ensures.size is

pub returns-clause-filled : goal.returns-clause-filled
returns-clause-filled c = λ bytes size is.
    filled_bytes bytes c.args.into.now c.clear.new.bytes c.args.page c.min-offset.result (omega (arith, size, c.min-offset.ensures, c.saturating_sub.ensures)) c.clear.ensures.before c.clear.ensures.behind c.clear.ensures.size is
