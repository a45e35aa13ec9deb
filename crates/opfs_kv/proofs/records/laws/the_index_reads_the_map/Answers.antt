use Rattle.opfs_kv.proofs.records.Indexed.{reads}
use Rattle.opfs_kv.proofs.records.laws.the_index_reads_the_map.Goals as goal

pub returns : goal.returns
returns c records rest = reads records rest
