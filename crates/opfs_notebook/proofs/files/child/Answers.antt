use Rattle.std.proofs.Common.{true, refl, arith}
use Rattle.opfs_hist.specs.declared.op.Op.TheVariants as op
use Rattle.opfs_notebook.proofs.Going.{GivesChild, child-told, own-mine, room-of, shared-on, shared-ready}
use Rattle.opfs_notebook.proofs.files.child.Goals as goal

pub get_file_handle-file-requires-clause-room : goal.get_file_handle-file-requires-clause-room
get_file_handle-file-requires-clause-room g c = room-of c.args.agent.now 50000000 (omega arith) c.requires.few

pub get_file_handle-file-requires-clause-dir : goal.get_file_handle-file-requires-clause-dir
get_file_handle-file-requires-clause-dir g c = own-mine g.S.Store.tells c.args.agent.now c.args.dir.now c.know_kept.ensures c.requires.mine

pub returns-clause-ready : goal.returns-clause-ready
returns-clause-ready g c =
    shared-ready g.S.Store.tells c.args.court.now c.args.agent.now c.get_file_handle-file.new.self c.know_kept.ensures c.know_kept-2.ensures (op.GetFileHandle c.args.dir.now c.in_ok-name.name true)
    (GivesChild c.args.dir.now c.in_ok-name.name) c.get_file_handle-file.result refl c.get_file_handle-file.ensures 0 refl c.requires.ready

pub returns-clause-goes : goal.returns-clause-goes
returns-clause-goes g c =
    shared-on g.S.Store.tells c.args.court.now c.args.agent.now c.get_file_handle-file.new.self c.know_kept.ensures c.know_kept-2.ensures (op.GetFileHandle c.args.dir.now c.in_ok-name.name true)
    (GivesChild c.args.dir.now c.in_ok-name.name) c.get_file_handle-file.result refl c.get_file_handle-file.ensures

pub returns-clause-mine : goal.returns-clause-mine
returns-clause-mine g c =
    child-told g.S.Store.tells c.args.court.now c.args.agent.now c.get_file_handle-file.new.self c.know_kept.ensures c.know_kept-2.ensures c.args.dir.now c.in_ok-name.name c.get_file_handle-file.result c.requires.mine c.get_file_handle-file.ensures
