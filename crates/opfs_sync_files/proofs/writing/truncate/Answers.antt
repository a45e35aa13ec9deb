use Rattle.std.proofs.Common.{◌≡◌, refl}
use Rattle.opfs_store.specs.declared.acts.acted.Gift.{Gift}
use Rattle.opfs_hist.specs.declared.op.Op.TheVariants as op
use Rattle.opfs_hist.specs.declared.reply.Reply.{Reply}
use Rattle.opfs_hist.specs.declared.reply.Reply.TheVariants as reply
use Rattle.opfs_sync_files.specs.Still.{NoBytes}
use Rattle.opfs_sync_files.proofs.Faulted.{cut-decides}
use Rattle.opfs_sync_files.proofs.Served.{cut-bytes, cut-same, cut-stored, shared-cause, shared-still}
use Rattle.opfs_sync_files.proofs.writing.truncate.Goals as goal

pub returns-clause-still : goal.returns-clause-still
returns-clause-still g c = shared-still g.S.Store.tells c.args.agent.now c.sync_truncate-done.new.self c.know_kept.ensures c.know_kept-2.ensures (op.SyncTruncate c.args.handle.now.row c.args.size) (λ (v : Unit {0}) (answered : Reply) (given : Gift). answered ≡ reply.Done) c.sync_truncate-done.result refl c.sync_truncate-done.ensures.shared c.args.handle.now c.sync_truncate-done.new.handle refl c.sync_truncate-done.ensures.handle c.sync_truncate-done.ensures.same c.requires.handle NoBytes (cut-decides c.args.agent.now c.args.handle.now c.args.size)

pub returns-clause-cut : goal.returns-clause-cut
returns-clause-cut g c = cut-bytes g.S.Store.tells c.args.agent.now c.sync_truncate-done.new.self c.know_kept.ensures c.know_kept-2.ensures c.args.handle.now c.requires.handle c.sync_truncate-done.new.handle c.sync_truncate-done.ensures.same.1 (λ (v : Unit {0}) (answered : Reply) (given : Gift). answered ≡ reply.Done) c.args.size c.sync_truncate-done.result c.sync_truncate-done.ensures.shared

pub returns-clause-same : goal.returns-clause-same
returns-clause-same g c = cut-same g.S.Store.tells c.args.agent.now c.sync_truncate-done.new.self c.know_kept.ensures c.know_kept-2.ensures c.args.handle.now c.requires.handle c.sync_truncate-done.new.handle c.sync_truncate-done.ensures.same.1 (λ (v : Unit {0}) (answered : Reply) (given : Gift). answered ≡ reply.Done) c.args.size c.sync_truncate-done.result c.sync_truncate-done.ensures.shared

pub returns-clause-stored : goal.returns-clause-stored
returns-clause-stored g c = cut-stored g.S.Store.tells c.args.agent.now c.sync_truncate-done.new.self c.know_kept.ensures c.know_kept-2.ensures c.args.handle.now c.requires.handle c.sync_truncate-done.new.handle c.sync_truncate-done.ensures.same.1 (λ (v : Unit {0}) (answered : Reply) (given : Gift). answered ≡ reply.Done) c.args.size c.sync_truncate-done.result c.sync_truncate-done.ensures.shared

pub returns-clause-cause : goal.returns-clause-cause
returns-clause-cause g c = shared-cause g.S.Store.tells c.args.agent.now c.sync_truncate-done.new.self c.know_kept.ensures c.know_kept-2.ensures (op.SyncTruncate c.args.handle.now.row c.args.size) (λ (v : Unit {0}) (answered : Reply) (given : Gift). answered ≡ reply.Done) c.sync_truncate-done.result c.sync_truncate-done.ensures.shared
