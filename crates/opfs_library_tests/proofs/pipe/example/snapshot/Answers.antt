use Rattle.std.proofs.Common.{arith}
use Rattle.opfs_hist.specs.declared.op.Op.TheVariants as op
use Rattle.opfs_notebook.proofs.Going.{own-mine, room-of, shared-more}
use Rattle.opfs_library_tests.proofs.pipe.Streams.{GivesSnapshot, taken-has, taken-ready}
use Rattle.opfs_library_tests.proofs.pipe.example.snapshot.Goals as goal

pub get_file-taken-requires-clause-room : goal.get_file-taken-requires-clause-room
get_file-taken-requires-clause-room g c = room-of c.args.agent.now 50000000 (omega arith) c.requires.few

pub get_file-taken-requires-clause-file : goal.get_file-taken-requires-clause-file
get_file-taken-requires-clause-file g c = own-mine g.S.Store.tells c.args.agent.now c.args.file.now c.know_kept.ensures c.requires.mine

pub returns-clause-ready : goal.returns-clause-ready
returns-clause-ready g c =
    taken-ready g.S.Store.tells c.args.court.now c.args.agent.now c.get_file-taken.new.self c.know_kept.ensures c.know_kept-2.ensures c.args.file.now c.get_file-taken.result c.get_file-taken.ensures c.requires.ready

pub returns-clause-goes : goal.returns-clause-goes
returns-clause-goes g c =
    shared-more g.S.Store.tells c.args.court.now c.args.agent.now c.get_file-taken.new.self c.know_kept.ensures c.know_kept-2.ensures (op.GetFile c.args.file.now) (GivesSnapshot g.S.Store.tells c.get_file-taken.new.self) c.get_file-taken.result c.get_file-taken.ensures

pub returns-clause-has : goal.returns-clause-has
returns-clause-has g c =
    taken-has g.S.Store.tells c.args.court.now c.args.agent.now c.get_file-taken.new.self c.know_kept.ensures c.know_kept-2.ensures c.args.file.now c.get_file-taken.result c.get_file-taken.ensures
