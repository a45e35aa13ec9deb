use Rattle.opfs_runner.proofs.Doing.{left-there}
use Rattle.opfs_runner.proofs.steps.make_step.Goals as goal

pub forget-requires-clause-snapshot : goal.forget-requires-clause-snapshot
forget-requires-clause-snapshot g c =
    left-there g.S.Store.tells c.args.agent.now c.run_step.new.agent c.args.agent_rows.now.items c.run_step.new.agent_rows.items c.args.hand.now c.run_step.new.hand c.args.step.now c.if-not-run_step.ensures
    c.requires.agrees c.requires.bounds c.snapshot_bound-before.result c.snapshot_bound-now.result c.row_left.result c.snapshot_bound-before.ensures c.row_left.ensures
