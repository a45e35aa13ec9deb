use Rattle.std.proofs.Common.{List, ap, subst, sym}
use Rattle.opfs_desk_runs.specs.Runs.{IsRunOn}
use Rattle.opfs_outside.specs.Turns.{of_sink}
use Rattle.opfs_script.specs.Scripts.{Asked}
use Rattle.opfs_commands.proofs.RunDisks.{not-ran, ran-on}
use Rattle.opfs_commands.proofs.runs.run_on.Goals as goal

pub returns-in-Ok-clause-ran : goal.returns-in-Ok-clause-ran
returns-in-Ok-clause-ran g c =
    ran-on g.D.Disk (of_sink g.K.Sink c.args.sink.now c.tell_disk.new.sink) c.args.script.now c.args.disk c.in-Ok.told.run c.in-Ok.told.told c.end_run.result.0 (sym c.end_run.ensures.disk)
    (subst (λ (s : List Asked). IsRunOn g.D.Disk s c.args.disk c.in-Ok.told.run) c.agents.ensures.agents c.in-Ok.ensures.run) c.in-Ok.ensures.put c.end_run.result.1 c.end_run.ensures.ended

pub returns-in-Err-clause-ran : goal.returns-in-Err-clause-ran
returns-in-Err-clause-ran g c =
    not-ran g.D.Disk (of_sink g.K.Sink c.args.sink.now c.tell_disk.new.sink) c.args.script.now c.args.disk c.in-Err.disk c.in-Err.ensures.only (λ t. ap g.K.Sink.written c.in-Err.ensures.none)
    c.in-Err.refusal c.in-Err.ensures.refused c.in-Err.ensures.cause c.refused_end.result c.refused_end.ensures
