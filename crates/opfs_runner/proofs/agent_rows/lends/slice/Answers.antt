use Rattle.opfs_runner.proofs.agent_rows.Resting.{sliced, sliced-not}
use Rattle.opfs_runner.proofs.agent_rows.lends.slice.Goals as goal

pub returns-in-Ok-clause-snapshot : goal.returns-in-Ok-clause-snapshot
returns-in-Ok-clause-snapshot g c =
    let h = c.in-Ok.ensures in
    sliced g.S.Store.tells c.args.agent.now c.slice-done.new.self c.know_kept.ensures c.args.snapshot.now c.args.snapshot.now.row c.args.at c.args.len h.answered 0 h.entered c.requires.snapshot

pub returns-in-Err-clause-snapshot : goal.returns-in-Err-clause-snapshot
returns-in-Err-clause-snapshot g c =
    sliced-not g.S.Store.tells c.args.agent.now c.slice-done.new.self c.know_kept.ensures (λ x answered. Unit {0}) c.in-Err.stop c.args.snapshot.now c.args.snapshot.now.row c.args.at c.args.len c.in-Err.ensures c.requires.snapshot
