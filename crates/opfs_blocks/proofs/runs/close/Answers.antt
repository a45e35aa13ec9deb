use Rattle.std.proofs.Common.{arith}
use Rattle.opfs_blocks.proofs.SetLemmas.{apart_push, apart_later}
use Rattle.opfs_blocks.proofs.runs.close.Goals as goal

pub returns-then-run-gt0-clause-apart : goal.returns-then-run-gt0-clause-apart
returns-then-run-gt0-clause-apart c = λ behind lt.
    rw (c.push.ensures.items, c.unwrap.ensures) (apart_push c.args.into.now.items c.args.run behind c.requires.apart c.if-run-gt0.true lt)

pub returns-else-run-gt0-clause-apart : goal.returns-else-run-gt0-clause-apart
returns-else-run-gt0-clause-apart c = λ behind lt.
    apart_later c.args.into.now.items c.args.run.start behind (omega arith) c.requires.apart
