use Rattle.opfs_kv.proofs.records.Growing.{reads-same, more-indexed, more-map, packed-indexed, packed-map}
use Rattle.opfs_kv.proofs.records.laws.a_file_grows.Goals as goal

pub returns-clause-cut : goal.returns-clause-cut
returns-clause-cut c old new live index i same = reads-same old new live index i same

pub returns-clause-more : goal.returns-clause-more
returns-clause-more c bytes index r i good = more-indexed bytes index r i good

pub returns-clause-map : goal.returns-clause-map
returns-clause-map c bytes index r i good = more-map bytes index r i good

pub returns-clause-packed : goal.returns-clause-packed
returns-clause-packed c bytes index packed made good sorted are is =
    (packed-indexed bytes index good sorted packed made are is, packed-map bytes index good sorted packed made are is)
