use Rattle.std.proofs.Common.{IsTrue, arith}
use Rattle.std.proofs.lemmas.Grind.{common_steps}
use Rattle.opfs_script.specs.Limits.{is_origin_key}
use Rattle.opfs_script.specs.Scripts.{Asked}
use Rattle.opfs_judge.proofs.trial.Keys.{All_take_more}
use Rattle.opfs_judge.proofs.trial.opening.agents_of.Goals as goal

pub loop-script-preserved : goal.loop-script-preserved
loop-script-preserved c = record {
  agents = grind (arith, common_steps);
  keys =
      All_take_more (λ (a : Asked). IsTrue (is_origin_key a.key)) c.args.scripts.now c.loop-script.script-index c.script-item.result
      c.loop-script-test.true c.script-item.is c.loop-script.invariant.keys c.in_ok-agent_of.ensures.key;
}
