use Rattle.opfs_sync_files.proofs.Served.{close-cause, close-doubts, close-goes, close-leaves, close-same, close-still, close-stores, close-unstored}
use Rattle.opfs_sync_files.proofs.ending.close.Goals as goal

pub returns-clause-goes : goal.returns-clause-goes
returns-clause-goes g c = close-goes g.S.Store.tells c.args.agent.now c.close_sync-done.new.self c.know_kept.ensures c.know_kept-2.ensures c.args.handle c.requires.handle c.close_sync-done.result c.close_sync-done.ensures.closed c.close_sync-done.ensures.back

pub returns-clause-others : goal.returns-clause-others
returns-clause-others g c = close-leaves g.S.Store.tells c.args.agent.now c.close_sync-done.new.self c.know_kept.ensures c.know_kept-2.ensures c.args.handle c.requires.handle c.close_sync-done.result c.close_sync-done.ensures.closed c.close_sync-done.ensures.back

pub returns-clause-stored : goal.returns-clause-stored
returns-clause-stored g c = close-stores g.S.Store.tells c.args.agent.now c.close_sync-done.new.self c.know_kept.ensures c.know_kept-2.ensures c.args.handle c.requires.handle c.close_sync-done.result c.close_sync-done.ensures.closed

pub returns-clause-doubts : goal.returns-clause-doubts
returns-clause-doubts g c = close-doubts g.S.Store.tells c.args.agent.now c.close_sync-done.new.self c.know_kept.ensures c.know_kept-2.ensures c.args.handle c.requires.handle c.close_sync-done.result c.close_sync-done.ensures.closed

pub returns-clause-still : goal.returns-clause-still
returns-clause-still g c = close-still g.S.Store.tells c.args.agent.now c.close_sync-done.new.self c.know_kept.ensures c.know_kept-2.ensures c.args.handle c.requires.handle c.close_sync-done.result c.close_sync-done.ensures.back

pub returns-clause-same : goal.returns-clause-same
returns-clause-same g c = close-same g.S.Store.tells c.args.agent.now c.close_sync-done.new.self c.know_kept.ensures c.know_kept-2.ensures c.args.handle c.requires.handle c.close_sync-done.result c.close_sync-done.ensures.back

pub returns-clause-unstored : goal.returns-clause-unstored
returns-clause-unstored g c = close-unstored g.S.Store.tells c.args.agent.now c.close_sync-done.new.self c.know_kept.ensures c.know_kept-2.ensures c.args.handle c.requires.handle c.close_sync-done.result c.close_sync-done.ensures.back

pub returns-clause-cause : goal.returns-clause-cause
returns-clause-cause g c = close-cause g.S.Store.tells c.args.agent.now c.close_sync-done.new.self c.know_kept.ensures c.know_kept-2.ensures c.args.handle c.requires.handle c.close_sync-done.result c.close_sync-done.ensures.back
