use Rattle.std.proofs.Common.{◌≡◌, ◌++◌}
use Rattle.std.specs.Map.{keys_of}
use Rattle.opfs_kv.specs.Records.Maps.{keys_from}
use Rattle.opfs_kv.proofs.records.listing.from_in.Given as goal

abbrev pub invariant-loop-key : goal.invariant-loop-key
invariant-loop-key l = l.keys.items ++ keys_of l.key-iterator ≡ keys_from l.from (keys_of l.places.entries)
