use Rattle.opfs_data.proofs.SwapLemmas.{counted_all}
use Rattle.opfs_data.proofs.swap.Swap.kept.Goals as goal

pub returns : goal.returns
returns c = counted_all c.loop-row.count _ c.loop-row.row-iterator c.loop-row.invariant.small c.in-None.ensures.steps.0 c.loop-row.invariant.total
