use Rattle.std.proofs.Common.{arith}
use Rattle.opfs_hist.specs.declared.op.Mode.TheVariants as mode
use Rattle.opfs_hist.specs.declared.op.Op.TheVariants as op
use Rattle.opfs_notebook.proofs.Going.{GivesHandle, opened-holds, opened-not, own-mine, room-of, shared-more}
use Rattle.opfs_notebook.proofs.files.open_file.Goals as goal

pub create_sync-opened-requires-clause-room : goal.create_sync-opened-requires-clause-room
create_sync-opened-requires-clause-room g c = room-of c.args.agent.now 50000000 (omega arith) c.requires.few

pub create_sync-opened-requires-clause-file : goal.create_sync-opened-requires-clause-file
create_sync-opened-requires-clause-file g c = own-mine g.S.Store.tells c.args.agent.now c.args.file.now c.know_kept.ensures c.requires.mine

pub returns-clause-goes : goal.returns-clause-goes
returns-clause-goes g c =
    shared-more g.S.Store.tells c.args.court.now c.args.agent.now c.create_sync-opened.new.self c.know_kept.ensures c.know_kept-2.ensures (op.CreateSyncAccessHandle c.args.file.now mode.ReadWrite) (GivesHandle g.S.Store.tells c.create_sync-opened.new.self c.args.file.now)
    c.create_sync-opened.result c.create_sync-opened.ensures

pub returns-clause-holds : goal.returns-clause-holds
returns-clause-holds g c =
    opened-holds g.S.Store.tells c.args.court.now c.args.agent.now c.create_sync-opened.new.self c.know_kept.ensures c.know_kept-2.ensures c.args.file.now c.create_sync-opened.result c.create_sync-opened.ensures c.requires.ready

pub returns-clause-not : goal.returns-clause-not
returns-clause-not g c =
    opened-not g.S.Store.tells c.args.court.now c.args.agent.now c.create_sync-opened.new.self c.know_kept.ensures c.know_kept-2.ensures c.args.file.now c.create_sync-opened.result c.create_sync-opened.ensures c.requires.ready
