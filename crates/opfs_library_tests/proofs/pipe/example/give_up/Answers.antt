use Rattle.std.proofs.Common.{refl, arith}
use Rattle.opfs_hist.specs.declared.op.Op.TheVariants as op
use Rattle.opfs_notebook.proofs.Going.{room-of}
use Rattle.opfs_library_tests.proofs.pipe.Streams.{spent-more, spent-ready}
use Rattle.opfs_library_tests.proofs.pipe.example.give_up.Goals as goal

pub abort-closed-requires-clause-room : goal.abort-closed-requires-clause-room
abort-closed-requires-clause-room g c = room-of c.args.agent.now 50000003 (omega arith) c.requires.few

pub returns-clause-ready : goal.returns-clause-ready
returns-clause-ready g c =
    spent-ready g.S.Store.tells c.args.court.now c.args.agent.now c.abort-closed.new.self c.know_kept.ensures c.know_kept-2.ensures (op.Abort c.args.stream.row) c.args.stream.row c.abort-closed.result.row refl refl
    c.abort-closed.ensures c.requires.ready

pub returns-clause-goes : goal.returns-clause-goes
returns-clause-goes g c =
    spent-more g.S.Store.tells c.args.court.now c.args.agent.now c.abort-closed.new.self c.know_kept.ensures c.know_kept-2.ensures (op.Abort c.args.stream.row) c.args.stream.row c.abort-closed.result.row c.abort-closed.ensures
