use Rattle.std.proofs.Common.{◌≡◌, refl}
use Rattle.opfs_store.specs.declared.acts.acted.Gift.{Gift}
use Rattle.opfs_hist.specs.declared.op.Op.TheVariants as op
use Rattle.opfs_hist.specs.declared.reply.Reply.{Reply}
use Rattle.opfs_hist.specs.declared.reply.Reply.TheVariants as reply
use Rattle.opfs_sync_files.specs.Still.{TheBytes}
use Rattle.opfs_sync_files.specs.Files.{file_bytes}
use Rattle.opfs_sync_files.proofs.Faulted.{flush-decides}
use Rattle.opfs_sync_files.proofs.Served.{flush-same, flush-stored, flush-unstored, shared-cause, shared-still}
use Rattle.opfs_sync_files.proofs.writing.flush.Goals as goal

pub returns-clause-still : goal.returns-clause-still
returns-clause-still g c = shared-still g.S.Store.tells c.args.agent.now c.sync_flush-done.new.self c.know_kept.ensures c.know_kept-2.ensures (op.SyncFlush c.args.handle.now.row) (λ (v : Unit {0}) (answered : Reply) (given : Gift). answered ≡ reply.Done) c.sync_flush-done.result refl c.sync_flush-done.ensures.shared c.args.handle.now c.sync_flush-done.new.handle refl c.sync_flush-done.ensures.handle c.sync_flush-done.ensures.same c.requires.handle (TheBytes (file_bytes c.args.agent.now c.args.handle.now)) (flush-decides c.args.agent.now c.args.handle.now)

pub returns-clause-same : goal.returns-clause-same
returns-clause-same g c = flush-same g.S.Store.tells c.args.agent.now c.sync_flush-done.new.self c.know_kept.ensures c.know_kept-2.ensures c.args.handle.now c.requires.handle c.sync_flush-done.new.handle c.sync_flush-done.ensures.same.1 (λ (v : Unit {0}) (answered : Reply) (given : Gift). answered ≡ reply.Done) c.sync_flush-done.result c.sync_flush-done.ensures.shared

pub returns-clause-stored : goal.returns-clause-stored
returns-clause-stored g c = flush-stored g.S.Store.tells c.args.agent.now c.sync_flush-done.new.self c.know_kept.ensures c.know_kept-2.ensures c.args.handle.now c.requires.handle c.sync_flush-done.new.handle c.sync_flush-done.ensures.same.1 (λ (v : Unit {0}) (answered : Reply) (given : Gift). answered ≡ reply.Done) c.sync_flush-done.result c.sync_flush-done.ensures.shared

pub returns-clause-unstored : goal.returns-clause-unstored
returns-clause-unstored g c = flush-unstored g.S.Store.tells c.args.agent.now c.sync_flush-done.new.self c.know_kept.ensures c.know_kept-2.ensures c.args.handle.now c.requires.handle c.sync_flush-done.new.handle c.sync_flush-done.ensures.same.1 (λ (v : Unit {0}) (answered : Reply) (given : Gift). answered ≡ reply.Done) c.sync_flush-done.result c.sync_flush-done.ensures.shared

pub returns-clause-cause : goal.returns-clause-cause
returns-clause-cause g c = shared-cause g.S.Store.tells c.args.agent.now c.sync_flush-done.new.self c.know_kept.ensures c.know_kept-2.ensures (op.SyncFlush c.args.handle.now.row) (λ (v : Unit {0}) (answered : Reply) (given : Gift). answered ≡ reply.Done) c.sync_flush-done.result c.sync_flush-done.ensures.shared
