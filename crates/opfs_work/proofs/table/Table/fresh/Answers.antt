use Rattle.opfs_work.proofs.Counts.{kept_none}
use Rattle.opfs_work.proofs.table.Table.fresh.Goals as goal

pub invariant_of-result : goal.invariant_of-result
invariant_of-result c = kept_none _ _ _ _ c.new.ensures.items c.new-2.ensures.len
