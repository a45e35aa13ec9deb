use Rattle.opfs_pages.proofs.row_calls.Covered.{covered-page}
use Rattle.opfs_pages.proofs.row_calls.leave.page_after.Goals as goal

pub returns-then-is_covered-clause-read : goal.returns-then-is_covered-clause-read
returns-then-is_covered-clause-read g c = λ told bytes copy held.
    covered-page bytes c.args.buffer.now c.change.new.buffer c.args.wanted.now.given.now c.args.page c.args.wanted.now.at c.args.wanted.now.size c.requires.buffer c.change.ensures.after (c.is_covered.ensures c.if-is_covered.true)

pub returns-clause-read : goal.returns-clause-read
returns-clause-read g c = λ told bytes copy held. c.change-2.ensures.after bytes (c.in_ok-fill_page.ensures.read told bytes copy held)
