use Rattle.std.proofs.Common.{◌≡◌, ◌+◌, sum_by}
use Rattle.opfs_kv.specs.Records.Indexes.{cost_of}
use Rattle.opfs_kv.proofs.records.listing.cost_in.Given as goal

abbrev pub invariant-loop-key : goal.invariant-loop-key
invariant-loop-key l = l.cost + sum_by cost_of l.key-iterator ≡ sum_by cost_of l.places.entries
