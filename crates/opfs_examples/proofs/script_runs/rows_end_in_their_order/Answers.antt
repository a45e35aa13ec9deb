use Rattle.std.proofs.Common.{◌≡◌}
use Rattle.opfs_hist.specs.declared.op.Op.TheVariants as op
use Rattle.opfs_examples.proofs.script_runs.rows_end_in_their_order.Goals as goal

other : op.Abort 2 ≡ op.Abort 1 → ⊥
other e = cc

pub returns : goal.returns
returns c = λ h. other h.1.1.1.1.1
