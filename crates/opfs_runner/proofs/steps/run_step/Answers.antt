use Rattle.std.proofs.Common.{sym, subst}
use Rattle.opfs_runner.specs.RunLaws.Kinds.{MayPerform}
use Rattle.opfs_runner.proofs.run_laws.StepOps.{asks}
use Rattle.opfs_script_run.specs.Runs.Running.{op_of}
use Rattle.opfs_runner.specs.AgentRows.Tables.{kinds_of}
use Rattle.opfs_runner.proofs.Doing.{not-asked}
use Rattle.opfs_runner.proofs.steps.run_step.Goals as goal

pub returns-in_default : goal.returns-in_default
returns-in_default g c = not-asked g.S.Store.tells c.args.agent.now c.args.agent_rows.now.items c.args.hand.now c.args.step.now c.requires.table

pub run_asked-done-requires-clause-may : goal.run_asked-done-requires-clause-may
run_asked-done-requires-clause-may g c =
    let kinds = kinds_of c.args.agent_rows.now.items in
    subst (MayPerform c.args.agent.now.key kinds) (sym c.in-Ok.ensures)
    (subst (λ key. MayPerform key kinds (op_of c.args.hand.now c.args.step.now)) c.requires.key (asks c.args.hand.now kinds c.requires.agrees c.args.step.now c.requires.bounds))
