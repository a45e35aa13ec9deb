use Rattle.std.proofs.Common.{◌≡◌, map, take}
use Rattle.opfs_script_run.specs.Runs.Running.{empty_hand}
use Rattle.opfs_serving.proofs.serving.hands_of.Given as goal

abbrev pub invariant-loop-script : goal.invariant-loop-script
invariant-loop-script l = record {
  hands : l.hands.items ≡ map (λ s. empty_hand s.key) (take l.script-index l.scripts);
}
