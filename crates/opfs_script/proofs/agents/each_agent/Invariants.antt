use Rattle.std.proofs.Common.{◌≡◌, ◌+◌, drop}
use Rattle.serde_json.specs.View.{view}
use Rattle.opfs_script.specs.Reading.{agent_of, each_from, after}
use Rattle.opfs_script.proofs.agents.each_agent.Given as goal

abbrev pub invariant-loop-place : goal.invariant-loop-place
invariant-loop-place l = each_from (λ number value. agent_of number (view value)) 1 l.values ≡ after l.drafts.items (each_from (λ number value. agent_of number (view value)) (l.place + 1) (drop l.place l.values))
