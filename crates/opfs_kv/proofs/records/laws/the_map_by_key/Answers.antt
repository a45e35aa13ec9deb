use Rattle.opfs_kv.proofs.records.ByKey.{map-by-key}
use Rattle.opfs_kv.proofs.records.laws.the_map_by_key.Goals as goal

pub returns : goal.returns
returns c m sorted = map-by-key m sorted
