use Rattle.std.proofs.Common.{subst, sym}
use Rattle.opfs_kv.specs.Opening.{HasEnded}
use Rattle.opfs_kv.proofs.Scanned.{stopped-ends}
use Rattle.opfs_kv.proofs.opening.scanned.Goals as goal

pub returns-in-Err-clause-bad : goal.returns-in-Err-clause-bad
returns-in-Err-clause-bad c = subst (HasEnded c.args.size c.args.at c.args.piece.now c.args.index.now) (sym c.stop_of.ensures) (stopped-ends c.args.size c.args.at c.args.piece.now c.args.index.now c.in-Err.miss c.in-Err.ensures.bad)
