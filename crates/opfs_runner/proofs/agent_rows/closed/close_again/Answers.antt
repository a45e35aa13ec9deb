use Rattle.opfs_runner.proofs.agent_rows.Resting.{closed-again}
use Rattle.opfs_runner.proofs.agent_rows.closed.close_again.Goals as goal

pub returns-in-Ok-clause-closed : goal.returns-in-Ok-clause-closed
returns-in-Ok-clause-closed g c =
    let h = c.in-Ok.ensures in
    closed-again g.S.Store.tells c.args.agent.now c.close_again-done.new.self c.know_kept.ensures c.args.closed.now.row h.answered 0 c.requires.closed h.entered
