use Rattle.std.proofs.Common.{Ok, refl}
use Rattle.opfs_outside.specs.Turns.{of_host, of_sink}
use Rattle.opfs_top.proofs.Hosts.{image_answered, image_failed}
use Rattle.opfs_top.specs.declared.answer.Answer.{Answer}
use Rattle.opfs_top.proofs.Made.{leaves_wider, unmade_error, unmade_run}
use Rattle.opfs_top.proofs.tool.answer_image.Goals as goal

pub returns-in_err-answer-clause-told : goal.returns-in_err-answer-clause-told
returns-in_err-answer-clause-told g c =
    image_failed (of_sink g.K.Sink c.args.sink.now c.run_command.new.sink) (of_host g.H.Host c.args.host.now c.run_command.new.host) c.args.path.now c.args.action c.run_command.result c.from_residual.result c.run_command.ensures.put c.from_residual.ensures.0

pub returns-clause-told : goal.returns-clause-told
returns-clause-told g c =
    image_answered (of_sink g.K.Sink c.args.sink.now c.run_command.new.sink) (of_host g.H.Host c.args.host.now c.run_command.new.host) c.args.path.now c.args.action c.run_command.result c.in_ok-answer.answer _ _ c.run_command.ensures.put c.in_ok-answer.was refl c.status_of.ensures refl

pub returns-in_err-answer-clause-made : goal.returns-in_err-answer-clause-made
returns-in_err-answer-clause-made g c = λ is told. leaves_wider (of_host g.H.Host c.args.host.now c.run_command.new.host) c.args.path.now _ _ _ _ (λ d made. made) (λ u. unmade_error c.run_command.result _ c.in_err-answer.was) (c.run_command.ensures.made is told)

pub returns-clause-made : goal.returns-clause-made
returns-clause-made g c = λ is told.
    let b : Answer = record { status = c.status_of.result; text = c.in_ok-answer.answer.text } in
    leaves_wider (of_host g.H.Host c.args.host.now c.run_command.new.host) c.args.path.now _ _ _ _ (λ d made. made) (λ u. unmade_run c.run_command.result c.in_ok-answer.answer (Ok b) b c.in_ok-answer.was refl c.status_of.ensures u) (c.run_command.ensures.made is told)
