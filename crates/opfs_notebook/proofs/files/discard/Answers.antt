use Rattle.std.proofs.Common.{refl, arith}
use Rattle.opfs_hist.specs.declared.op.Op.TheVariants as op
use Rattle.opfs_notebook.proofs.Going.{room-of, spent-more, spent-ready}
use Rattle.opfs_notebook.proofs.files.discard.Goals as goal

pub discard_sync-closed-requires-clause-room : goal.discard_sync-closed-requires-clause-room
discard_sync-closed-requires-clause-room g c = room-of c.args.agent.now 50001000 (omega arith) c.requires.few

pub returns-clause-ready : goal.returns-clause-ready
returns-clause-ready g c =
    spent-ready g.S.Store.tells c.args.court.now c.args.agent.now c.discard_sync-closed.new.self c.know_kept.ensures c.know_kept-2.ensures (op.Discard c.args.handle.row) c.args.handle.row c.discard_sync-closed.result.row refl refl
    c.discard_sync-closed.ensures c.requires.holds.ready

pub returns-clause-goes : goal.returns-clause-goes
returns-clause-goes g c =
    spent-more g.S.Store.tells c.args.court.now c.args.agent.now c.discard_sync-closed.new.self c.know_kept.ensures c.know_kept-2.ensures (op.Discard c.args.handle.row) c.args.handle.row c.discard_sync-closed.result.row c.discard_sync-closed.ensures
