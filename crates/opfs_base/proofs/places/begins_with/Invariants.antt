use Rattle.std.proofs.Common.{◌≡◌, drop}
use Rattle.opfs_base.specs.Places.{begins_with}
use Rattle.opfs_base.proofs.places.begins_with.Given as goal

abbrev pub invariant-loop-at : goal.invariant-loop-at
invariant-loop-at l = begins_with l.front l.names ≡ begins_with (drop l.at l.front) (drop l.at l.names)
