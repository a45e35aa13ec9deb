use Rattle.std.proofs.Common.{◌≡◌, option_map, find}
use Rattle.std.specs.Option.{option_copied}
use Rattle.opfs_shed.specs.Buckets.{persistent_past}
use Rattle.opfs_shed.proofs.shed.Shed.persistent_after.Given as goal

abbrev pub invariant-loop-unit : goal.invariant-loop-unit
invariant-loop-unit l =
    persistent_past (option_copied l.fn.key) l.self.buckets ≡ option_map (λ e. e.0) (find (λ e. e.1.persistent) l.unit-iterator)
