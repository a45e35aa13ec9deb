use Rattle.std.proofs.Common.{Ok, refl, subst, sym}
use Rattle.opfs_outside.specs.Turns.{of_host}
use Rattle.opfs_top.specs.Answers.{LoadEnded}
use Rattle.opfs_top.proofs.Hosts.{load_ended}
use Rattle.opfs_top.specs.declared.answer.Answer.{Answer}
use Rattle.opfs_top.proofs.Made.{leaves_wider, unmade_error, unmade_run}
use Rattle.opfs_top.proofs.tool.answer_load.Goals as goal

pub returns-clause-ended : goal.returns-clause-ended
returns-clause-ended g c =
    let h = of_host g.H.Host c.args.host.now c.load_at.new.host in
    subst (λ s. LoadEnded h c.args.image.now c.args.text.now s c.in_ok-answer.answer.text) (sym c.status_of.ensures)
    (load_ended h c.args.image.now c.args.text.now c.in_ok-answer.answer.end c.in_ok-answer.answer.text c.in_ok-answer.ensures.answer)

pub returns-in_err-answer-clause-made : goal.returns-in_err-answer-clause-made
returns-in_err-answer-clause-made g c = λ told. leaves_wider (of_host g.H.Host c.args.host.now c.load_at.new.host) c.args.image.now _ _ _ _ (λ d made. made) (λ u. unmade_error c.load_at.result _ c.in_err-answer.was) (c.load_at.ensures.made told)

pub returns-clause-made : goal.returns-clause-made
returns-clause-made g c = λ told.
    let b : Answer = record { status = c.status_of.result; text = c.in_ok-answer.answer.text } in
    leaves_wider (of_host g.H.Host c.args.host.now c.load_at.new.host) c.args.image.now _ _ _ _ (λ d made. made) (λ u. unmade_run c.load_at.result c.in_ok-answer.answer (Ok b) b c.in_ok-answer.was refl c.status_of.ensures u) (c.load_at.ensures.made told)
