use Rattle.std.proofs.Common.{◌≡◌, drop}
use Rattle.opfs_pool.specs.Victims.{last_in}
use Rattle.opfs_base.specs.Units.{origin_of}
use Rattle.opfs_pool.proofs.victims.last_use.Given as goal

abbrev pub invariant-loop-used : goal.invariant-loop-used
invariant-loop-used l = last_in (drop l.used-index l.uses) (origin_of l.unit) ≡ last_in l.uses (origin_of l.unit)
