use Rattle.std.proofs.Common.{◌≡◌}
use Rattle.opfs_runner.proofs.Way.{UnderWay}
use Rattle.opfs_runner.proofs.steps.run_steps.Given as goal

abbrev pub invariant-loop-step : goal.invariant-loop-step
invariant-loop-step g l = UnderWay g.S.Store.tells l.script l.fn.agent.pass l.agent l.agent_rows.items l.hand l.step-index × (l.number ≡ l.step-index)
