use Rattle.std.proofs.Common.{refl, arith}
use Rattle.opfs_hist.specs.declared.op.Op.TheVariants as op
use Rattle.opfs_notebook.proofs.Going.{GivesRoot, room-of, root-told, shared-on, shared-ready}
use Rattle.opfs_notebook.proofs.files.root.Goals as goal

pub get_directory-root-requires-clause-room : goal.get_directory-root-requires-clause-room
get_directory-root-requires-clause-room g c = room-of c.args.agent.now 50000000 (omega arith) c.requires.few

pub returns-clause-ready : goal.returns-clause-ready
returns-clause-ready g c =
    shared-ready g.S.Store.tells c.args.court.now c.args.agent.now c.get_directory-root.new.self c.know_kept.ensures c.know_kept-2.ensures (op.GetDirectory c.in_ok-bucket.bucket)
    (GivesRoot c.args.agent.now c.in_ok-bucket.bucket) c.get_directory-root.result refl c.get_directory-root.ensures 0 refl c.requires.ready

pub returns-clause-goes : goal.returns-clause-goes
returns-clause-goes g c =
    shared-on g.S.Store.tells c.args.court.now c.args.agent.now c.get_directory-root.new.self c.know_kept.ensures c.know_kept-2.ensures (op.GetDirectory c.in_ok-bucket.bucket)
    (GivesRoot c.args.agent.now c.in_ok-bucket.bucket) c.get_directory-root.result refl c.get_directory-root.ensures

pub returns-clause-mine : goal.returns-clause-mine
returns-clause-mine g c =
    root-told g.S.Store.tells c.args.court.now c.args.agent.now c.get_directory-root.new.self c.know_kept.ensures c.know_kept-2.ensures c.in_ok-bucket.bucket c.get_directory-root.result c.requires.ready c.get_directory-root.ensures
