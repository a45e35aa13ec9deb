use Rattle.opfs_runner.proofs.Doing.{stepped}
use Rattle.opfs_runner.proofs.steps.run_asked.Goals as goal

pub returns : goal.returns
returns g c =
    stepped g.S.Store.tells c.args.agent.now c.perform-answer.new.agent c.know_kept.ensures c.args.agent_rows.now.items c.perform-answer.new.agent_rows.items c.args.hand.now c.note.new.hand c.args.step.now c.args.op.now c.requires.asked
    c.perform-answer.ensures.table c.perform-answer.result c.note.result c.perform-answer.ensures.called c.perform-answer.ensures.kinds c.note.ensures
