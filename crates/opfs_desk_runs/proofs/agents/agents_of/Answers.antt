use Rattle.std.proofs.Common.{All, subst, arith}
use Rattle.std.proofs.lemmas.List.{take_all}
use Rattle.std.proofs.lemmas.Grind.{common_steps}
use Rattle.opfs_script.specs.Scripts.{Asked}
use Rattle.opfs_desk_runs.specs.Agents.{IsOwnKey}
use Rattle.opfs_desk_runs.proofs.Keys.{one-more}
use Rattle.opfs_desk_runs.proofs.agents.agents_of.Goals as goal

pub loop-script-preserved : goal.loop-script-preserved
loop-script-preserved c = record {
  agents = grind (arith, common_steps);
  keys =
      one-more (λ (s : Asked). IsOwnKey s.key) c.args.scripts.now c.loop-script.script-index c.script-item.result
      c.loop-script-test.true c.script-item.is c.loop-script.invariant.keys c.in_ok-who_of.ensures.own;
}

pub returns-clause-keys : goal.returns-clause-keys
returns-clause-keys c =
    subst (λ xs. All (λ (s : Asked). IsOwnKey s.key) xs) (take_all c.loop-script.script-index c.args.scripts.now (omega (arith, c.loop-script-test.false))) c.loop-script.invariant.keys
