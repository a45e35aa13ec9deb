use Rattle.opfs_shed.proofs.Usages.{tied_none}
use Rattle.opfs_shed.proofs.shed.Shed.make.Goals as goal

pub invariant_of-result : goal.invariant_of-result
invariant_of-result c = tied_none _ _ c.new-2.ensures.empty c.new.ensures.empty
