use Rattle.std.proofs.Common.{◌≡◌, ◌++◌}
use Rattle.std.specs.Map.{keys_of}
use Rattle.opfs_kv.specs.Records.Maps.{keys_between}
use Rattle.opfs_kv.proofs.records.listing.between_in.Given as goal

abbrev pub invariant-loop-key : goal.invariant-loop-key
invariant-loop-key l = l.keys.items ++ keys_between l.from l.to (keys_of l.key-iterator) ≡ keys_between l.from l.to (keys_of l.places.entries)
