use Rattle.std.proofs.Common.{◌≡◌, map, take}
use Rattle.opfs_runner.proofs.run.agents.starters_of.Given as goal

abbrev pub invariant-loop-script : goal.invariant-loop-script
invariant-loop-script l = record {
  keys : map (λ s. s.key) l.starters.items ≡ map (λ s. s.key) (take l.script-index l.scripts);
}
