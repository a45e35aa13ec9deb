use Rattle.std.proofs.Common.{◌≡◌}
use Rattle.opfs_hist.specs.declared.op.Op.TheVariants as op
use Rattle.opfs_examples.proofs.script_runs.each_row_ends_once.Goals as goal

other : op.Abort 1 ≡ op.Abort 2 → ⊥
other e = cc

pub returns : goal.returns
returns c = λ h. other h.1.1.1.1.2.1
