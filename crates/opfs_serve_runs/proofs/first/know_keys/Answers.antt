use Rattle.std.proofs.Common.{◌≡◌, true, All, subst, arith}
use Rattle.std.proofs.lemmas.List.{take_all}
use Rattle.opfs_script.specs.Limits.{is_origin_key}
use Rattle.opfs_script.specs.Scripts.{Asked}
use Rattle.opfs_serve_runs.proofs.Alone.{has-key, one-more}
use Rattle.opfs_serve_runs.proofs.first.know_keys.Goals as goal

pub loop-agent-preserved : goal.loop-agent-preserved
loop-agent-preserved c =
    one-more (λ (a : Asked). is_origin_key a.key ≡ true) c.args.agents.now c.loop-agent.agent-index c.agent-item.result
    c.loop-agent-test.true c.agent-item.is c.loop-agent.invariant (has-key c.agent-item.result c.key-key.ensures.limits)

pub returns : goal.returns
returns c =
    subst (λ xs. All (λ (a : Asked). is_origin_key a.key ≡ true) xs) (take_all c.loop-agent.agent-index c.args.agents.now (omega (arith, c.loop-agent-test.false))) c.loop-agent.invariant
