use Rattle.std.proofs.Common.{false, arith}
use Rattle.opfs_hist.specs.declared.op.Op.TheVariants as op
use Rattle.opfs_pipe.proofs.Opened.{GivesStream}
use Rattle.opfs_notebook.proofs.Going.{own-mine, room-of, shared-more}
use Rattle.opfs_library_tests.proofs.pipe.Streams.{opened-has, opened-not, opened-ready}
use Rattle.opfs_library_tests.proofs.pipe.example.open_new.Goals as goal

pub create_writable-opened-requires-clause-room : goal.create_writable-opened-requires-clause-room
create_writable-opened-requires-clause-room g c = room-of c.args.agent.now 50000000 (omega arith) c.requires.few

pub create_writable-opened-requires-clause-file : goal.create_writable-opened-requires-clause-file
create_writable-opened-requires-clause-file g c = own-mine g.S.Store.tells c.args.agent.now c.args.file.now c.know_kept.ensures c.requires.mine

pub returns-clause-goes : goal.returns-clause-goes
returns-clause-goes g c =
    shared-more g.S.Store.tells c.args.court.now c.args.agent.now c.create_writable-opened.new.self c.know_kept.ensures c.know_kept-2.ensures (op.CreateWritable c.args.file.now false) (GivesStream g.S.Store.tells c.create_writable-opened.new.self c.args.file.now)
    c.create_writable-opened.result c.create_writable-opened.ensures

pub returns-clause-not : goal.returns-clause-not
returns-clause-not g c =
    opened-not g.S.Store.tells c.args.court.now c.args.agent.now c.create_writable-opened.new.self c.know_kept.ensures c.know_kept-2.ensures c.args.file.now c.create_writable-opened.result c.create_writable-opened.ensures c.requires.ready

pub returns-clause-ready : goal.returns-clause-ready
returns-clause-ready g c =
    opened-ready g.S.Store.tells c.args.court.now c.args.agent.now c.create_writable-opened.new.self c.know_kept.ensures c.know_kept-2.ensures c.args.file.now c.create_writable-opened.result c.create_writable-opened.ensures c.requires.ready

pub returns-clause-stream : goal.returns-clause-stream
returns-clause-stream g c =
    opened-has g.S.Store.tells c.args.court.now c.args.agent.now c.create_writable-opened.new.self c.know_kept.ensures c.know_kept-2.ensures c.args.file.now c.create_writable-opened.result c.create_writable-opened.ensures
