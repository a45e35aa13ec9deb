use Rattle.opfs_splice.specs.Splicing.{splice}
use Rattle.opfs_pages.proofs.row_calls.leave.change.Goals as goal

pub returns-clause-after : goal.returns-clause-after
returns-clause-after c = λ old is. c.cut.ensures.cut (splice old c.args.wanted.now.at c.args.wanted.now.given.now) (c.overlay.ensures.written old is)
