use Rattle.std.proofs.Common.{◌≡◌, Some, refl}
use Rattle.opfs_base.specs.Texts.{Text}
use Rattle.opfs_hist.specs.declared.op.Op.TheVariants as op
use Rattle.opfs_hist.specs.declared.reply.Reply.{Reply}
use Rattle.opfs_hist.specs.declared.reply.Reply.TheVariants as reply
use Rattle.opfs_sync_files.specs.Still.{NoBytes}
use Rattle.opfs_sync_files.proofs.Served.{local-cause, local-still, local-stored, near-long, near-read, near-same, far-long, far-read, far-same, far-stored, shared-cause, shared-still}
use Rattle.opfs_store.specs.declared.acts.acted.Gift.{Gift}
use Rattle.opfs_sync_files.proofs.Faulted.{read-decides}
use Rattle.opfs_sync_files.proofs.reading.read.Goals as goal

pub returns-then-near-clause-still : goal.returns-then-near-clause-still
returns-then-near-clause-still g c = local-still g.S.Store.tells c.args.agent.now c.sync_read-done.new.self c.know_kept.ensures c.know_kept-then-near.ensures (op.SyncRead c.args.handle.now.row c.args.len (Some c.args.at)) (λ (bytes : Text) (answered : Reply). answered ≡ reply.Read bytes) c.sync_read-done.result c.sync_read-done.ensures.local c.args.handle.now c.sync_read-done.new.handle refl c.sync_read-done.ensures.handle c.sync_read-done.ensures.same NoBytes

pub returns-then-near-clause-read : goal.returns-then-near-clause-read
returns-then-near-clause-read g c = near-read g.S.Store.tells c.args.agent.now c.sync_read-done.new.self c.know_kept.ensures c.know_kept-then-near.ensures c.args.handle.now c.requires.handle c.sync_read-done.new.handle c.sync_read-done.ensures.same.1 c.args.len c.args.at c.sync_read-done.result c.sync_read-done.ensures.local

pub returns-then-near-clause-long : goal.returns-then-near-clause-long
returns-then-near-clause-long g c = near-long g.S.Store.tells c.args.agent.now c.sync_read-done.new.self c.know_kept.ensures c.know_kept-then-near.ensures c.args.handle.now c.requires.handle c.sync_read-done.new.handle c.sync_read-done.ensures.same.1 c.args.len c.args.at c.sync_read-done.result c.sync_read-done.ensures.local

pub returns-then-near-clause-same : goal.returns-then-near-clause-same
returns-then-near-clause-same g c = near-same g.S.Store.tells c.args.agent.now c.sync_read-done.new.self c.know_kept.ensures c.know_kept-then-near.ensures c.args.handle.now c.requires.handle c.sync_read-done.new.handle c.sync_read-done.ensures.same.1 c.args.len c.args.at c.sync_read-done.result c.sync_read-done.ensures.local

pub returns-then-near-clause-stored : goal.returns-then-near-clause-stored
returns-then-near-clause-stored g c = local-stored g.S.Store.tells c.args.agent.now c.sync_read-done.new.self c.know_kept.ensures c.know_kept-then-near.ensures (op.SyncRead c.args.handle.now.row c.args.len (Some c.args.at)) (λ (bytes : Text) (answered : Reply). answered ≡ reply.Read bytes) c.sync_read-done.result c.args.handle.now c.sync_read-done.new.handle c.sync_read-done.ensures.same.1 c.sync_read-done.ensures.local

pub returns-then-near-clause-cause : goal.returns-then-near-clause-cause
returns-then-near-clause-cause g c = local-cause g.S.Store.tells c.args.agent.now c.sync_read-done.new.self c.know_kept.ensures c.know_kept-then-near.ensures (op.SyncRead c.args.handle.now.row c.args.len (Some c.args.at)) (λ (bytes : Text) (answered : Reply). answered ≡ reply.Read bytes) c.sync_read-done.result c.sync_read-done.ensures.local

pub returns-clause-still : goal.returns-clause-still
returns-clause-still g c = shared-still g.S.Store.tells c.args.agent.now c.sync_read_far-done.new.self c.know_kept.ensures c.know_kept-2.ensures (op.SyncRead c.args.handle.now.row c.args.len (Some c.args.at)) (λ (bytes : Text) (answered : Reply) (given : Gift). answered ≡ reply.Read bytes) c.sync_read_far-done.result refl c.sync_read_far-done.ensures.shared c.args.handle.now c.sync_read_far-done.new.handle refl c.sync_read_far-done.ensures.handle c.sync_read_far-done.ensures.same c.requires.handle NoBytes (read-decides c.args.agent.now c.args.handle.now c.args.len (Some c.args.at))

pub returns-clause-read : goal.returns-clause-read
returns-clause-read g c = far-read g.S.Store.tells c.args.agent.now c.sync_read_far-done.new.self c.know_kept.ensures c.know_kept-2.ensures c.args.handle.now c.requires.handle c.sync_read_far-done.new.handle c.sync_read_far-done.ensures.same.1 c.args.len c.args.at c.sync_read_far-done.result c.sync_read_far-done.ensures.shared

pub returns-clause-long : goal.returns-clause-long
returns-clause-long g c = far-long g.S.Store.tells c.args.agent.now c.sync_read_far-done.new.self c.know_kept.ensures c.know_kept-2.ensures c.args.handle.now c.requires.handle c.sync_read_far-done.new.handle c.sync_read_far-done.ensures.same.1 c.args.len c.args.at c.sync_read_far-done.result c.sync_read_far-done.ensures.shared

pub returns-clause-same : goal.returns-clause-same
returns-clause-same g c = far-same g.S.Store.tells c.args.agent.now c.sync_read_far-done.new.self c.know_kept.ensures c.know_kept-2.ensures c.args.handle.now c.requires.handle c.sync_read_far-done.new.handle c.sync_read_far-done.ensures.same.1 c.args.len c.args.at c.sync_read_far-done.result c.sync_read_far-done.ensures.shared

pub returns-clause-stored : goal.returns-clause-stored
returns-clause-stored g c = far-stored g.S.Store.tells c.args.agent.now c.sync_read_far-done.new.self c.know_kept.ensures c.know_kept-2.ensures c.args.handle.now c.requires.handle c.sync_read_far-done.new.handle c.sync_read_far-done.ensures.same.1 c.args.len c.args.at c.sync_read_far-done.result c.sync_read_far-done.ensures.shared

pub returns-clause-cause : goal.returns-clause-cause
returns-clause-cause g c = shared-cause g.S.Store.tells c.args.agent.now c.sync_read_far-done.new.self c.know_kept.ensures c.know_kept-2.ensures (op.SyncRead c.args.handle.now.row c.args.len (Some c.args.at)) (λ (bytes : Text) (answered : Reply) (given : Gift). answered ≡ reply.Read bytes) c.sync_read_far-done.result c.sync_read_far-done.ensures.shared
