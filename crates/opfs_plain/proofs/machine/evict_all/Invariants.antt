use Rattle.std.proofs.Common.{◌≡◌, ◌++◌, fold, map}
use Rattle.opfs_machine.specs.Runs.{eviction}
use Rattle.opfs_machine.specs.Steps.{evicted}
use Rattle.opfs_plain.proofs.machine.evict_all.Given as goal

abbrev pub invariant-loop-unit : goal.invariant-loop-unit
invariant-loop-unit l = record {
  state : l.state ≡ fold evicted l.initial.state l.yielded;
  told : l.entries.items ≡ l.initial.entries.items ++ map eviction l.yielded;
}
