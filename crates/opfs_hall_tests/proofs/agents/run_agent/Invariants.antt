use Rattle.std.proofs.Common.{◌≡◌, true}
use Rattle.opfs_hall_tests.specs.Runs.{HasRun, IsSamePass}
use Rattle.opfs_hall_tests.proofs.agents.run_agent.Given as goal

-- the turns below `count` are made
abbrev pub invariant-loop-count : goal.invariant-loop-count
invariant-loop-count g l = IsSamePass l.fn.pass l.pass × (l.complete ≡ true → HasRun l.count (l.fn.pass.agent, l.pass.base))
