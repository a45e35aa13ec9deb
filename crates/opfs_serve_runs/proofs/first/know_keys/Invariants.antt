use Rattle.std.proofs.Common.{◌≡◌, true, All, take}
use Rattle.opfs_script.specs.Limits.{is_origin_key}
use Rattle.opfs_serve_runs.proofs.first.know_keys.Given as goal

abbrev pub invariant-loop-agent : goal.invariant-loop-agent
invariant-loop-agent l = All (λ a. is_origin_key a.key ≡ true) (take l.agent-index l.agents)
