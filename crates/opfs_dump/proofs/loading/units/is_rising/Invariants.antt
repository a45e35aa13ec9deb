use Rattle.std.proofs.Common.{◌≡◌, length}
use Rattle.opfs_dump.specs.Text.Limits.{is_rising}
use Rattle.opfs_dump.proofs.loading.units.is_rising.Given as goal

abbrev pub invariant-loop-rest : goal.invariant-loop-rest
invariant-loop-rest l = is_rising l.rest ≡ is_rising l.keys

abbrev pub decreases-loop-rest : goal.decreases-loop-rest
decreases-loop-rest l = length l.rest
