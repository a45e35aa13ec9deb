use Rattle.std.proofs.Common.{arith}
use Rattle.opfs_notebook.proofs.Going.{goes-then, made-then, room-of}
use Rattle.opfs_library_tests.proofs.kv.Held.{goes-one, shut-ready, still-holds, still-more}
use Rattle.opfs_library_tests.proofs.kv.visits.close_file.Goals as goal

pub close-done-requires-clause-room : goal.close-done-requires-clause-room
close-done-requires-clause-room g c = room-of c.args.agent.now 50000000 (omega arith) c.requires.few

pub returns-in-Ok-clause-ready : goal.returns-in-Ok-clause-ready
returns-in-Ok-clause-ready g c = shut-ready g.S.Store.tells c.args.court.now c.args.agent.now c.close-done.new.agent c.know_kept.ensures c.know_kept-2.ensures _ c.args.handle c.in-Ok.ensures.closed c.close-done.ensures.goes c.close-done.ensures.others c.requires.holds

pub returns-in-Ok-clause-goes : goal.returns-in-Ok-clause-goes
returns-in-Ok-clause-goes g c = goes-one g.S.Store.tells c.args.court.now c.args.agent.now c.close-done.new.agent c.know_kept.ensures c.know_kept-2.ensures 2 c.args.handle.row (omega arith) c.close-done.ensures.goes c.close-done.ensures.others

pub discard-requires-clause-holds : goal.discard-requires-clause-holds
discard-requires-clause-holds g c = still-holds g.S.Store.tells c.args.court.now c.args.agent.now c.close-done.new.agent c.know_kept.ensures c.know_kept-2.ensures c.args.handle c.in-Err.handle _ c.in-Err.ensures.still c.requires.holds

pub discard-requires-clause-few : goal.discard-requires-clause-few
discard-requires-clause-few g c = made-then c.args.agent.now c.close-done.new.agent 50000000 1 50001000 (omega arith) c.requires.few (still-more g.S.Store.tells c.args.court.now c.args.agent.now c.close-done.new.agent c.know_kept.ensures c.know_kept-2.ensures c.args.handle c.in-Err.handle _ c.in-Err.ensures.still)

pub returns-in-Err-clause-goes : goal.returns-in-Err-clause-goes
returns-in-Err-clause-goes g c = goes-then c.args.agent.now c.close-done.new.agent c.discard.new.agent 1 1 2 (omega arith) (still-more g.S.Store.tells c.args.court.now c.args.agent.now c.close-done.new.agent c.know_kept.ensures c.know_kept-2.ensures c.args.handle c.in-Err.handle _ c.in-Err.ensures.still) c.discard.ensures.goes
