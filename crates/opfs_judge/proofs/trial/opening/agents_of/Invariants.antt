use Rattle.std.proofs.Common.{◌≡◌, All, IsTrue, map, take}
use Rattle.opfs_machine.specs.Openings.{agent_begun}
use Rattle.opfs_script.specs.Limits.{is_origin_key}
use Rattle.opfs_script_run.specs.Stage.Openings.{who_of}
use Rattle.opfs_judge.proofs.trial.opening.agents_of.Given as goal

abbrev pub invariant-loop-script : goal.invariant-loop-script
invariant-loop-script l = record {
  agents : l.agents.items ≡ map agent_begun (map who_of (take l.script-index l.scripts));
  keys : All (λ a. IsTrue (is_origin_key a.key)) (take l.script-index l.scripts);
}
