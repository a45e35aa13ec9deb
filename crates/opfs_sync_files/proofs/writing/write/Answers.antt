use Rattle.std.proofs.Common.{◌≡◌, ℕ, Some, IfErr, OnErr, OnOk, refl, subst, sym}
use Rattle.opfs_store.specs.declared.acts.acted.Gift.{Gift}
use Rattle.opfs_hist.specs.declared.op.Op.TheVariants as op
use Rattle.opfs_hist.specs.declared.reply.Reply.{Reply}
use Rattle.opfs_hist.specs.declared.reply.Reply.TheVariants as reply
use Rattle.opfs_splice.specs.Splicing.{splice}
use Rattle.opfs_sync_files.specs.Entries.{IsCaused, TheCall}
use Rattle.opfs_sync_files.specs.Files.{file_bytes}
use Rattle.opfs_sync_files.specs.Still.{NoBytes}
use Rattle.opfs_sync_files.proofs.Faulted.{write-decides}
use Rattle.opfs_sync_files.proofs.Served.{shared-cause, shared-still, written-cause, written-err, written-ok, wrote-bytes, wrote-same, wrote-stored}
use Rattle.opfs_sync_files.proofs.writing.write.Goals as goal

pub returns-clause-still : goal.returns-clause-still
returns-clause-still g c = shared-still g.S.Store.tells c.args.agent.now c.sync_write-done.new.self c.know_kept.ensures c.know_kept-2.ensures (op.SyncWrite c.args.handle.now.row c.args.bytes.now (Some c.args.at)) (λ (count : ℕ) (answered : Reply) (given : Gift). answered ≡ reply.Length count) c.sync_write-done.result refl c.sync_write-done.ensures.shared c.args.handle.now c.sync_write-done.new.handle refl c.sync_write-done.ensures.handle c.sync_write-done.ensures.same c.requires.handle NoBytes (write-decides c.args.agent.now c.args.handle.now c.args.bytes.now (Some c.args.at))

pub returns-clause-wrote : goal.returns-clause-wrote
returns-clause-wrote g c =
    subst (λ r. OnOk r (file_bytes c.sync_write-done.new.self c.sync_write-done.new.handle ≡ splice (file_bytes c.args.agent.now c.args.handle.now) c.args.at c.args.bytes.now)) (sym c.written.ensures) (written-ok c.sync_write-done.result (file_bytes c.sync_write-done.new.self c.sync_write-done.new.handle ≡ splice (file_bytes c.args.agent.now c.args.handle.now) c.args.at c.args.bytes.now) (wrote-bytes g.S.Store.tells c.args.agent.now c.sync_write-done.new.self c.know_kept.ensures c.know_kept-2.ensures c.args.handle.now c.requires.handle c.sync_write-done.new.handle c.sync_write-done.ensures.same.1 (λ (count : ℕ) (answered : Reply) (given : Gift). answered ≡ reply.Length count) c.args.bytes.now c.args.at c.sync_write-done.result c.sync_write-done.ensures.shared))

pub returns-clause-same : goal.returns-clause-same
returns-clause-same g c =
    subst (λ r. OnErr r (file_bytes c.sync_write-done.new.self c.sync_write-done.new.handle ≡ file_bytes c.args.agent.now c.args.handle.now)) (sym c.written.ensures) (written-err c.sync_write-done.result (file_bytes c.sync_write-done.new.self c.sync_write-done.new.handle ≡ file_bytes c.args.agent.now c.args.handle.now) (wrote-same g.S.Store.tells c.args.agent.now c.sync_write-done.new.self c.know_kept.ensures c.know_kept-2.ensures c.args.handle.now c.requires.handle c.sync_write-done.new.handle c.sync_write-done.ensures.same.1 (λ (count : ℕ) (answered : Reply) (given : Gift). answered ≡ reply.Length count) c.args.bytes.now c.args.at c.sync_write-done.result c.sync_write-done.ensures.shared))

pub returns-clause-stored : goal.returns-clause-stored
returns-clause-stored g c = wrote-stored g.S.Store.tells c.args.agent.now c.sync_write-done.new.self c.know_kept.ensures c.know_kept-2.ensures c.args.handle.now c.requires.handle c.sync_write-done.new.handle c.sync_write-done.ensures.same.1 (λ (count : ℕ) (answered : Reply) (given : Gift). answered ≡ reply.Length count) c.args.bytes.now c.args.at c.sync_write-done.result c.sync_write-done.ensures.shared

pub returns-clause-cause : goal.returns-clause-cause
returns-clause-cause g c =
    subst (λ r. IfErr r (IsCaused c.args.agent.now c.sync_write-done.new.self (TheCall (op.SyncWrite c.args.handle.now.row c.args.bytes.now (Some c.args.at))))) (sym c.written.ensures) (written-cause c.sync_write-done.result (IsCaused c.args.agent.now c.sync_write-done.new.self (TheCall (op.SyncWrite c.args.handle.now.row c.args.bytes.now (Some c.args.at)))) (shared-cause g.S.Store.tells c.args.agent.now c.sync_write-done.new.self c.know_kept.ensures c.know_kept-2.ensures (op.SyncWrite c.args.handle.now.row c.args.bytes.now (Some c.args.at)) (λ (count : ℕ) (answered : Reply) (given : Gift). answered ≡ reply.Length count) c.sync_write-done.result c.sync_write-done.ensures.shared))
