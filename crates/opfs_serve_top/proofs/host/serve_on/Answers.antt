use Rattle.opfs_serve_top.proofs.Ends.{held-on, held-went, not-held-on, refused-went}
use Rattle.opfs_serving.specs.declared.progress.State.TheVariants as state
use Rattle.opfs_serve_top.proofs.host.serve_on.Goals as goal

pub returns-in-Ok-clause-ended : goal.returns-in-Ok-clause-ended
returns-in-Ok-clause-ended g c =
    held-on g.D.Disk g.P.Port.tells g.P.Port.said c.args.agents.now c.args.port.now c.serve_disk.new.port c.args.disk c.end_held-disk.result.0 c.in-Ok.served.run c.in-Ok.served.state c.end_held-disk.result.1 c.end_held-disk.ensures.disk c.in-Ok.ensures.served c.end_held-disk.ensures.ended

pub returns-in-Ok-clause-all : goal.returns-in-Ok-clause-all
returns-in-Ok-clause-all g c = λ went. c.in-Ok.ensures.all (held-went state.On c.in-Ok.served.run.done c.in-Ok.served.state c.end_held-disk.result.1 c.end_held-disk.ensures.ended went)

pub returns-in-Ok-clause-failed : goal.returns-in-Ok-clause-failed
returns-in-Ok-clause-failed g c = λ went. c.in-Ok.ensures.failed (held-went state.Failed c.in-Ok.served.run.done c.in-Ok.served.state c.end_held-disk.result.1 c.end_held-disk.ensures.ended went)

pub returns-in-Err-clause-failed : goal.returns-in-Err-clause-failed
returns-in-Err-clause-failed g c = refused-went state.Failed c.in-Err.refusal c.refused_end.result _ c.refused_end.ensures

pub returns-in-Err-clause-all : goal.returns-in-Err-clause-all
returns-in-Err-clause-all g c = refused-went state.On c.in-Err.refusal c.refused_end.result _ c.refused_end.ensures

pub returns-in-Err-clause-ended : goal.returns-in-Err-clause-ended
returns-in-Err-clause-ended g c =
    not-held-on g.D.Disk g.P.Port.tells g.P.Port.said c.args.agents.now c.args.port.now c.serve_disk.new.port c.args.disk c.in-Err.disk c.in-Err.refusal c.refused_end.result c.in-Err.ensures.only c.in-Err.ensures.none c.in-Err.ensures.refused c.in-Err.ensures.cause c.refused_end.ensures
