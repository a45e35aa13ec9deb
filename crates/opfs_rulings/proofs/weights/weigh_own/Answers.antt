use Rattle.opfs_rulings.proofs.Weighing.{own_weighs}
use Rattle.opfs_rulings.proofs.weights.weigh_own.Goals as goal

pub returns : goal.returns
returns c = own_weighs c.args.row.now _ _ c.reserve_of.ensures c.stream_part.ensures
