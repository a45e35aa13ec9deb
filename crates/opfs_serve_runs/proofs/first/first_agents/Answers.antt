use Rattle.std.proofs.Common.{◌≡◌, true, All, subst}
use Rattle.opfs_script.specs.Limits.{is_origin_key}
use Rattle.opfs_script.specs.Scripts.{Asked}
use Rattle.opfs_serve_runs.proofs.Alone.{both-all, few-agents, heard-idle}
use Rattle.opfs_serve_runs.proofs.first.first_agents.Goals as goal

pub returns-clause-alone : goal.returns-clause-alone
returns-clause-alone c =
    both-all c.in_ok-script.script (heard-idle c.args.line.now c.in_ok-script.script c.in_ok-script.ensures)
    (subst (λ xs. All (λ (a : Asked). is_origin_key a.key ≡ true) xs) c.agents-agents.ensures.agents c.know_keys.ensures)

pub returns-clause-few : goal.returns-clause-few
returns-clause-few c = few-agents c.in_ok-script.script c.agents-agents.ensures.limits
