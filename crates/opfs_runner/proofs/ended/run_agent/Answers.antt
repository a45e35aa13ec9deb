use Rattle.opfs_runner.proofs.Endings.{has-run}
use Rattle.opfs_runner.proofs.ended.run_agent.Goals as goal

pub returns : goal.returns
returns g c =
    has-run g.S.Store.tells c.args.court.now c.args.script.now c.args.agent c.run_steps-whole.new.agent c.end_rows.new.agent c.end-pass.result c.run_steps-whole.result c.requires c.know_kept.ensures
    c.run_steps-whole.ensures.same c.end_rows.ensures.same (c.end_rows.ensures.closes c.args.script.now c.run_steps-whole.result c.run_steps-whole.ensures.closes) c.end-pass.ensures
