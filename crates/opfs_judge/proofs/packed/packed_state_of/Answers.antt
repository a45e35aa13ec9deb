use Rattle.std.proofs.Common.{◌∙◌, All, ap, subst}
use Rattle.opfs_machine.specs.Openings.{begun}
use Rattle.opfs_script_run.specs.Stage.Openings.{trial_opening}
use Rattle.opfs_judge.proofs.Beginning.{HasKey, begins-without, keys-without}
use Rattle.opfs_judge.proofs.packed.packed_state_of.Goals as goal

pub returns-clause-state : goal.returns-clause-state
returns-clause-state c = c.in_ok-state.ensures.state ∙ ap (λ script. begun (trial_opening script)) c.in_ok-heads.ensures ∙ begins-without c.args.script.now

pub returns-clause-keys : goal.returns-clause-keys
returns-clause-keys c = keys-without c.args.script.now (subst (All HasKey) c.in_ok-heads.ensures c.in_ok-state.ensures.keys)
