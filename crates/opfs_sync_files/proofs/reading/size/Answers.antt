use Rattle.std.proofs.Common.{◌≡◌, ℕ, refl}
use Rattle.opfs_hist.specs.declared.op.Op.TheVariants as op
use Rattle.opfs_hist.specs.declared.reply.Reply.{Reply}
use Rattle.opfs_hist.specs.declared.reply.Reply.TheVariants as reply
use Rattle.opfs_sync_files.specs.Still.{NoBytes}
use Rattle.opfs_sync_files.proofs.Served.{local-cause, local-still, size-same}
use Rattle.opfs_sync_files.proofs.reading.size.Goals as goal

pub returns-clause-still : goal.returns-clause-still
returns-clause-still g c = local-still g.S.Store.tells c.args.agent.now c.sync_size-done.new.self c.know_kept.ensures c.know_kept-2.ensures (op.SyncGetSize c.args.handle.now.row) (λ (size : ℕ) (answered : Reply). (size ≡ c.args.handle.now.work.length) × (answered ≡ reply.Length size)) c.sync_size-done.result c.sync_size-done.ensures.local c.args.handle.now c.args.handle.now refl c.sync_size-done.ensures.handle (refl, refl, refl) NoBytes

pub returns-clause-same : goal.returns-clause-same
returns-clause-same g c = size-same g.S.Store.tells c.args.agent.now c.sync_size-done.new.self c.know_kept.ensures c.know_kept-2.ensures c.args.handle.now c.requires.handle c.args.handle.now refl (λ (size : ℕ) (answered : Reply). (size ≡ c.args.handle.now.work.length) × (answered ≡ reply.Length size)) c.sync_size-done.result c.sync_size-done.ensures.local

pub returns-clause-cause : goal.returns-clause-cause
returns-clause-cause g c = local-cause g.S.Store.tells c.args.agent.now c.sync_size-done.new.self c.know_kept.ensures c.know_kept-2.ensures (op.SyncGetSize c.args.handle.now.row) (λ (size : ℕ) (answered : Reply). (size ≡ c.args.handle.now.work.length) × (answered ≡ reply.Length size)) c.sync_size-done.result c.sync_size-done.ensures.local
