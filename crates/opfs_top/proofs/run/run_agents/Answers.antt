use Rattle.std.proofs.Common.{refl}
use Rattle.opfs_outside.specs.Turns.{of_host, of_sink}
use Rattle.opfs_top.proofs.Running.{run_answered, run_left, run_short}
use Rattle.opfs_top.proofs.run.run_agents.Goals as goal

pub returns-in_err-answer-clause-told : goal.returns-in_err-answer-clause-told
returns-in_err-answer-clause-told g c = run_short (of_host g.H.Host c.args.host.now c.run_at.new.host) c.args.path.now c.args.script.now (of_sink g.K.Sink c.args.sink.now c.run_at.new.sink) c.run_at.result c.from_residual.result c.run_at.ensures.ran c.from_residual.ensures.0

pub returns-in_err-answer-clause-left : goal.returns-in_err-answer-clause-left
returns-in_err-answer-clause-left g c = run_left (of_host g.H.Host c.args.host.now c.run_at.new.host) c.args.path.now c.args.script.now (of_sink g.K.Sink c.args.sink.now c.run_at.new.sink) c.run_at.result c.run_at.ensures.ran

pub returns-clause-told : goal.returns-clause-told
returns-clause-told g c = run_answered (of_host g.H.Host c.args.host.now c.run_at.new.host) c.args.path.now c.args.script.now (of_sink g.K.Sink c.args.sink.now c.run_at.new.sink) c.run_at.result c.in_ok-answer.answer _ _ c.run_at.ensures.ran c.in_ok-answer.was refl c.status_of.ensures refl

pub returns-clause-left : goal.returns-clause-left
returns-clause-left g c = run_left (of_host g.H.Host c.args.host.now c.run_at.new.host) c.args.path.now c.args.script.now (of_sink g.K.Sink c.args.sink.now c.run_at.new.sink) c.run_at.result c.run_at.ensures.ran
