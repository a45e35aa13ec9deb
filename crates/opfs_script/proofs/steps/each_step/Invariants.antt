use Rattle.std.proofs.Common.{◌≡◌, ◌+◌, drop}
use Rattle.std.specs.Prelude.{IsTrue}
use Rattle.std.specs.List.{list_all}
use Rattle.serde_json.specs.View.{view}
use Rattle.opfs_script.specs.Limits.{keeps_bounds}
use Rattle.opfs_script.specs.Reading.{step_of, each_from, after}
use Rattle.opfs_script.proofs.steps.each_step.Given as goal

abbrev pub invariant-loop-place : goal.invariant-loop-place
invariant-loop-place l = record {
  read : each_from (λ number value. step_of l.agent number (view value)) 1 l.values ≡ after l.steps.items (each_from (λ number value. step_of l.agent number (view value)) (l.place + 1) (drop l.place l.values));
  bounded : IsTrue (list_all keeps_bounds l.steps.items);
}
