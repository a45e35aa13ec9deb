use Rattle.std.proofs.Common.{◌≡◌, ◌⊎◌, Ok, Err, subst}
use Rattle.std.specs.Prelude.{IfOk, IfErr}
use Rattle.opfs_script.specs.Reading.{step_of}
use Rattle.opfs_script.specs.declared.refusal.ScriptRefusal.TheVariants.{NoMemory}
use Rattle.opfs_script.proofs.EachLemmas.{each_from-view}
use Rattle.opfs_script.proofs.steps.steps_of.Goals as goal

pub returns-clause-steps : goal.returns-clause-steps
returns-clause-steps c =
    subst (λ read. IfOk c.each_step.result (λ found. read ≡ Ok found.items)) (each_from-view (step_of c.args.agent) 1 c.args.values.now)
    c.each_step.ensures.steps

pub returns-clause-refused : goal.returns-clause-refused
returns-clause-refused c =
    subst (λ read. IfErr c.each_step.result (λ why. (read ≡ Err why) ⊎ (why ≡ NoMemory))) (each_from-view (step_of c.args.agent) 1 c.args.values.now)
    c.each_step.ensures.refused
