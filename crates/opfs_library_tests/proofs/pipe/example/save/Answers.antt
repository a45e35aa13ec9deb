use Rattle.std.proofs.Common.{refl, arith}
use Rattle.opfs_hist.specs.declared.op.Op.TheVariants as op
use Rattle.opfs_notebook.proofs.Going.{goes-most, goes-then, made-then, room-of}
use Rattle.opfs_library_tests.proofs.pipe.Streams.{back-more, back-ready, spent-more, spent-ready}
use Rattle.opfs_library_tests.proofs.pipe.example.save.Goals as goal

pub close_writable-done-requires-clause-room : goal.close_writable-done-requires-clause-room
close_writable-done-requires-clause-room g c = room-of c.args.agent.now 50000002 (omega arith) c.requires.few

pub give_up-requires-clause-ready : goal.give_up-requires-clause-ready
give_up-requires-clause-ready g c =
    back-ready g.S.Store.tells c.args.court.now c.args.agent.now c.close_writable-done.new.self c.know_kept.ensures c.know_kept-2.ensures c.args.stream c.in-Err.stream c.in-Err.stop c.in-Err.ensures.back c.requires.ready

pub give_up-requires-clause-few : goal.give_up-requires-clause-few
give_up-requires-clause-few g c =
    made-then c.args.agent.now c.close_writable-done.new.self 50000002 1 50000003 (omega arith) c.requires.few
    (back-more g.S.Store.tells c.args.court.now c.args.agent.now c.close_writable-done.new.self c.know_kept.ensures c.know_kept-2.ensures c.args.stream c.in-Err.stream c.in-Err.stop c.in-Err.ensures.back)

pub give_up-requires-clause-stream : goal.give_up-requires-clause-stream
give_up-requires-clause-stream g c = c.in-Err.ensures.back.open_still

pub returns-in-Ok-clause-ready : goal.returns-in-Ok-clause-ready
returns-in-Ok-clause-ready g c =
    spent-ready g.S.Store.tells c.args.court.now c.args.agent.now c.close_writable-done.new.self c.know_kept.ensures c.know_kept-2.ensures (op.Close c.args.stream.row) c.args.stream.row c.in-Ok.field-0.row refl refl
    c.in-Ok.ensures.closed c.requires.ready

pub returns-in-Ok-clause-goes : goal.returns-in-Ok-clause-goes
returns-in-Ok-clause-goes g c =
    goes-most c.args.agent.now c.close_writable-done.new.self 1 2 (omega arith)
    (spent-more g.S.Store.tells c.args.court.now c.args.agent.now c.close_writable-done.new.self c.know_kept.ensures c.know_kept-2.ensures (op.Close c.args.stream.row) c.args.stream.row c.in-Ok.field-0.row c.in-Ok.ensures.closed)

pub returns-in-Err-clause-goes : goal.returns-in-Err-clause-goes
returns-in-Err-clause-goes g c =
    goes-then c.args.agent.now c.close_writable-done.new.self c.give_up.new.agent 1 1 2 (omega arith)
    (back-more g.S.Store.tells c.args.court.now c.args.agent.now c.close_writable-done.new.self c.know_kept.ensures c.know_kept-2.ensures c.args.stream c.in-Err.stream c.in-Err.stop c.in-Err.ensures.back)
    c.give_up.ensures.goes
