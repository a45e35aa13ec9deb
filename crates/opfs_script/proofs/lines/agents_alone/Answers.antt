use Rattle.std.proofs.Common.{◌≡◌, ◌⊎◌, Ok, Err, subst}
use Rattle.std.specs.Prelude.{IfOk, IfErr}
use Rattle.opfs_script.specs.Lines.{agent_alone}
use Rattle.opfs_script.specs.declared.refusal.ScriptRefusal.TheVariants.{NoMemory}
use Rattle.opfs_script.proofs.EachLemmas.{each_from-view}
use Rattle.opfs_script.proofs.lines.agents_alone.Goals as goal

pub returns-clause-agents : goal.returns-clause-agents
returns-clause-agents c =
    subst (λ read. IfOk c.each_alone.result (λ found. read ≡ Ok found.items)) (each_from-view agent_alone 1 c.args.values.now)
    c.each_alone.ensures.agents

pub returns-clause-refused : goal.returns-clause-refused
returns-clause-refused c =
    subst (λ read. IfErr c.each_alone.result (λ why. (read ≡ Err why) ⊎ (why ≡ NoMemory))) (each_from-view agent_alone 1 c.args.values.now)
    c.each_alone.ensures.refused
