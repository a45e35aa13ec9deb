use Rattle.std.proofs.Common.{Ok}
use Rattle.opfs_outside.specs.Turns.{of_host, of_sink}
use Rattle.opfs_top.specs.Answers.{BytesRan}
use Rattle.opfs_top.proofs.Running.{bytes_left, bytes_refused, bytes_told}
use Rattle.opfs_top.proofs.Telling.{told_none, told_nothing, told_on, told_short}
use Rattle.opfs_top.proofs.run.run_bytes.Goals as goal

pub returns-in_ok-answer-in-Ok-clause-told : goal.returns-in_ok-answer-in-Ok-clause-told
returns-in_ok-answer-in-Ok-clause-told g c = told_on (of_sink g.K.Sink c.args.sink.now c.run_agents.new.sink) _ _ c.run_agents.result (bytes_told (of_host g.H.Host c.args.host.now c.run_agents.new.host) c.args.path.now _ c.args.bytes.now c.in-Ok.ensures.script (of_sink g.K.Sink c.args.sink.now c.run_agents.new.sink) c.run_agents.result c.run_agents.ensures.told) _ c.in_ok-answer-in-Ok.was

pub returns-in_err-answer-in-Ok-clause-told : goal.returns-in_err-answer-in-Ok-clause-told
returns-in_err-answer-in-Ok-clause-told g c = told_short (of_sink g.K.Sink c.args.sink.now c.run_agents.new.sink) _ _ c.run_agents.result (bytes_told (of_host g.H.Host c.args.host.now c.run_agents.new.host) c.args.path.now _ c.args.bytes.now c.in-Ok.ensures.script (of_sink g.K.Sink c.args.sink.now c.run_agents.new.sink) c.run_agents.result c.run_agents.ensures.told) c.from_residual.result c.from_residual.ensures.0

pub returns-in_ok-answer-in-Err-clause-told : goal.returns-in_ok-answer-in-Err-clause-told
returns-in_ok-answer-in-Err-clause-told g c =
    told_nothing g.K.Sink c.args.sink.now _ (BytesRan (of_host g.H.Host c.args.host.now c.args.host.now) c.args.path.now c.args.bytes.now) (λ t x. x) (Ok c.in_ok-answer-in-Err.answer)
    (bytes_refused (of_host g.H.Host c.args.host.now c.args.host.now) c.args.path.now c.args.bytes.now c.in-Err.why c.in-Err.ensures.refused c.in_ok-answer-in-Err.answer c.in_ok-answer-in-Err.ensures.status c.in_ok-answer-in-Err.ensures.text)

pub returns-in_err-answer-in-Err-clause-told : goal.returns-in_err-answer-in-Err-clause-told
returns-in_err-answer-in-Err-clause-told g c = told_none g.K.Sink c.args.sink.now _ _ c.from_residual-in_err-answer-in-Err.result c.from_residual-in_err-answer-in-Err.ensures.0

pub returns-in_ok-answer-in-Ok-clause-left : goal.returns-in_ok-answer-in-Ok-clause-left
returns-in_ok-answer-in-Ok-clause-left g c = bytes_left (of_host g.H.Host c.args.host.now c.run_agents.new.host) c.args.path.now _ c.args.bytes.now c.in-Ok.ensures.script c.run_agents.ensures.left

pub returns-in_err-answer-in-Ok-clause-left : goal.returns-in_err-answer-in-Ok-clause-left
returns-in_err-answer-in-Ok-clause-left g c = bytes_left (of_host g.H.Host c.args.host.now c.run_agents.new.host) c.args.path.now _ c.args.bytes.now c.in-Ok.ensures.script c.run_agents.ensures.left
