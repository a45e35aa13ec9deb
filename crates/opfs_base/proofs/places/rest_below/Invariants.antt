use Rattle.std.proofs.Common.{◌≡◌, ◌≤◌, drop, length}
use Rattle.opfs_base.specs.Places.{rest_below}
use Rattle.opfs_base.proofs.places.rest_below.Given as goal

abbrev pub invariant-loop-at : goal.invariant-loop-at
invariant-loop-at l = (l.at ≤ length l.names) × (rest_below l.dir l.names ≡ rest_below (drop l.at l.dir) (drop l.at l.names))
