use Rattle.opfs_pages.proofs.PageBytes.{begun_written, begun_resized}
use Rattle.opfs_pages.proofs.laws.untouched_pages_go_on.Goals as goal

pub returns-clause-written : goal.returns-clause-written
returns-clause-written c = λ old given page i at apart is. begun_written old given page i at apart is

pub returns-clause-resized : goal.returns-clause-resized
returns-clause-resized c = λ old page i size apart is. begun_resized old page i size apart is
