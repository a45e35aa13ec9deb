use Rattle.std.proofs.Common.{false, arith}
use Rattle.opfs_hist.specs.declared.op.Op.TheVariants as op
use Rattle.opfs_pipe.proofs.Opened.{GivesStream}
use Rattle.opfs_notebook.proofs.Going.{own-mine, room-of, shared-more}
use Rattle.opfs_library_tests.proofs.pipe.Streams.{opened-has, opened-not, opened-ready}
use Rattle.opfs_library_tests.proofs.pipe.example.target_of.Goals as goal

pub open_target-opened-requires-clause-room : goal.open_target-opened-requires-clause-room
open_target-opened-requires-clause-room g c = room-of c.args.agent.now 40000000 (omega arith) c.requires.few

pub open_target-opened-requires-clause-file : goal.open_target-opened-requires-clause-file
open_target-opened-requires-clause-file g c = own-mine g.S.Store.tells c.args.agent.now c.args.file.now c.know_kept.ensures c.requires.mine

pub returns-clause-goes : goal.returns-clause-goes
returns-clause-goes g c =
    shared-more g.S.Store.tells c.args.court.now c.args.agent.now c.open_target-opened.new.writer c.know_kept.ensures c.know_kept-2.ensures (op.CreateWritable c.args.file.now false) (GivesStream g.S.Store.tells c.open_target-opened.new.writer c.args.file.now)
    c.open_target-opened.result c.open_target-opened.ensures.shared

pub returns-clause-not : goal.returns-clause-not
returns-clause-not g c =
    opened-not g.S.Store.tells c.args.court.now c.args.agent.now c.open_target-opened.new.writer c.know_kept.ensures c.know_kept-2.ensures c.args.file.now c.open_target-opened.result c.open_target-opened.ensures.shared c.requires.ready

pub returns-clause-ready : goal.returns-clause-ready
returns-clause-ready g c =
    opened-ready g.S.Store.tells c.args.court.now c.args.agent.now c.open_target-opened.new.writer c.know_kept.ensures c.know_kept-2.ensures c.args.file.now c.open_target-opened.result c.open_target-opened.ensures.shared c.requires.ready

pub returns-clause-stream : goal.returns-clause-stream
returns-clause-stream g c =
    opened-has g.S.Store.tells c.args.court.now c.args.agent.now c.open_target-opened.new.writer c.know_kept.ensures c.know_kept-2.ensures c.args.file.now c.open_target-opened.result c.open_target-opened.ensures.shared
