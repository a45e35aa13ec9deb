use Rattle.std.proofs.Common.{refl}
use Rattle.opfs_desk.proofs.dispatch.Handles.{has-handle}
use Rattle.opfs_desk.proofs.dispatch.Plain.{as-kind, plain-asked, plain-go}
use Rattle.opfs_desk.proofs.dispatch.Words.{never-ends, other-kind}
use Rattle.opfs_desk.proofs.dispatch.acting.act_by_kind.Goals as goal
use Rattle.opfs_desk.specs.declared.dispatch.kinds.CallKind.TheVariants as kind
use Rattle.opfs_desk_steps.specs.Parts.Seen.{machine_in}

pub act_done-requires-clause-go : goal.act_done-requires-clause-go
act_done-requires-clause-go g c =
    plain-go g.D.Disk c.args.parts.now c.args.pending.now c.args.call c.args.work.now c.args.past.now (other-kind kind.Told (machine_in c.args.parts.now.ledger) c.args.call.agent c.args.call.op refl (as-kind _ kind.Told (machine_in c.args.parts.now.ledger) c.args.call.agent c.args.call.op c.in-Told.is c.kind_of-kind.ensures)) c.requires.go

pub act_done-requires-clause-word : goal.act_done-requires-clause-word
act_done-requires-clause-word g c = (as-kind _ kind.Told (machine_in c.args.parts.now.ledger) c.args.call.agent c.args.call.op c.in-Told.is c.kind_of-kind.ensures).0

pub act_done-requires-clause-only : goal.act_done-requires-clause-only
act_done-requires-clause-only g c = (as-kind _ kind.Told (machine_in c.args.parts.now.ledger) c.args.call.agent c.args.call.op c.in-Told.is c.kind_of-kind.ensures).1

pub returns-in-Told-clause-acted : goal.returns-in-Told-clause-acted
returns-in-Told-clause-acted g c f recorded held whole asked =
    c.act_done.ensures.acted f recorded held
    (plain-asked g.D.Disk.tells f.opening c.args.parts.now.ledger.books.history c.args.pending.now c.args.parts.now.ledger.books.state c.args.call c.args.work.now c.args.past.now (other-kind kind.Told (machine_in c.args.parts.now.ledger) c.args.call.agent c.args.call.op refl (as-kind _ kind.Told (machine_in c.args.parts.now.ledger) c.args.call.agent c.args.call.op c.in-Told.is c.kind_of-kind.ensures)) asked)

pub act_persisted-requires-clause-go : goal.act_persisted-requires-clause-go
act_persisted-requires-clause-go g c =
    plain-go g.D.Disk c.args.parts.now c.args.pending.now c.args.call c.args.work.now c.args.past.now (other-kind kind.Persisted (machine_in c.args.parts.now.ledger) c.args.call.agent c.args.call.op refl (as-kind _ kind.Persisted (machine_in c.args.parts.now.ledger) c.args.call.agent c.args.call.op c.in-Persisted.is c.kind_of-kind.ensures)) c.requires.go

pub act_persisted-requires-clause-word : goal.act_persisted-requires-clause-word
act_persisted-requires-clause-word g c = (as-kind _ kind.Persisted (machine_in c.args.parts.now.ledger) c.args.call.agent c.args.call.op c.in-Persisted.is c.kind_of-kind.ensures).0

pub act_persisted-requires-clause-only : goal.act_persisted-requires-clause-only
act_persisted-requires-clause-only g c = (as-kind _ kind.Persisted (machine_in c.args.parts.now.ledger) c.args.call.agent c.args.call.op c.in-Persisted.is c.kind_of-kind.ensures).1

pub returns-in_ok-act_persisted-in-Persisted-clause-acted : goal.returns-in_ok-act_persisted-in-Persisted-clause-acted
returns-in_ok-act_persisted-in-Persisted-clause-acted g c f recorded held whole asked =
    c.in_ok-act_persisted-in-Persisted.ensures.acted f recorded held
    (plain-asked g.D.Disk.tells f.opening c.args.parts.now.ledger.books.history c.args.pending.now c.args.parts.now.ledger.books.state c.args.call c.args.work.now c.args.past.now (other-kind kind.Persisted (machine_in c.args.parts.now.ledger) c.args.call.agent c.args.call.op refl (as-kind _ kind.Persisted (machine_in c.args.parts.now.ledger) c.args.call.agent c.args.call.op c.in-Persisted.is c.kind_of-kind.ensures)) asked)

pub returns-in_err-act_persisted-in-Persisted-clause-ends : goal.returns-in_err-act_persisted-in-Persisted-clause-ends
returns-in_err-act_persisted-in-Persisted-clause-ends g c end = absurd (never-ends kind.Persisted (machine_in c.args.parts.now.ledger) c.args.call.agent c.args.call.op refl (as-kind _ kind.Persisted (machine_in c.args.parts.now.ledger) c.args.call.agent c.args.call.op c.in-Persisted.is c.kind_of-kind.ensures) end)

pub act_persist-requires-clause-go : goal.act_persist-requires-clause-go
act_persist-requires-clause-go g c =
    plain-go g.D.Disk c.args.parts.now c.args.pending.now c.args.call c.args.work.now c.args.past.now (other-kind kind.Given (machine_in c.args.parts.now.ledger) c.args.call.agent c.args.call.op refl (as-kind _ kind.Given (machine_in c.args.parts.now.ledger) c.args.call.agent c.args.call.op c.in-Given.is c.kind_of-kind.ensures)) c.requires.go

pub act_persist-requires-clause-word : goal.act_persist-requires-clause-word
act_persist-requires-clause-word g c = as-kind _ kind.Given (machine_in c.args.parts.now.ledger) c.args.call.agent c.args.call.op c.in-Given.is c.kind_of-kind.ensures

pub returns-in_ok-act_persist-in-Given-clause-acted : goal.returns-in_ok-act_persist-in-Given-clause-acted
returns-in_ok-act_persist-in-Given-clause-acted g c f recorded held whole asked =
    c.in_ok-act_persist-in-Given.ensures.acted f recorded held
    (plain-asked g.D.Disk.tells f.opening c.args.parts.now.ledger.books.history c.args.pending.now c.args.parts.now.ledger.books.state c.args.call c.args.work.now c.args.past.now (other-kind kind.Given (machine_in c.args.parts.now.ledger) c.args.call.agent c.args.call.op refl (as-kind _ kind.Given (machine_in c.args.parts.now.ledger) c.args.call.agent c.args.call.op c.in-Given.is c.kind_of-kind.ensures)) asked)

pub returns-in_err-act_persist-in-Given-clause-ends : goal.returns-in_err-act_persist-in-Given-clause-ends
returns-in_err-act_persist-in-Given-clause-ends g c end = absurd (never-ends kind.Given (machine_in c.args.parts.now.ledger) c.args.call.agent c.args.call.op refl (as-kind _ kind.Given (machine_in c.args.parts.now.ledger) c.args.call.agent c.args.call.op c.in-Given.is c.kind_of-kind.ensures) end)

pub act_next-requires-clause-word : goal.act_next-requires-clause-word
act_next-requires-clause-word g c = as-kind _ kind.Next (machine_in c.args.parts.now.ledger) c.args.call.agent c.args.call.op c.in-Next.is c.kind_of-kind.ensures

pub returns-in_ok-act_next-in-Next-clause-acted : goal.returns-in_ok-act_next-in-Next-clause-acted
returns-in_ok-act_next-in-Next-clause-acted g c f recorded held whole asked = c.in_ok-act_next-in-Next.ensures.acted f recorded held asked

pub returns-in_err-act_next-in-Next-clause-ends : goal.returns-in_err-act_next-in-Next-clause-ends
returns-in_err-act_next-in-Next-clause-ends g c end = absurd (never-ends kind.Next (machine_in c.args.parts.now.ledger) c.args.call.agent c.args.call.op refl (as-kind _ kind.Next (machine_in c.args.parts.now.ledger) c.args.call.agent c.args.call.op c.in-Next.is c.kind_of-kind.ensures) end)

pub act_estimate-requires-clause-go : goal.act_estimate-requires-clause-go
act_estimate-requires-clause-go g c =
    plain-go g.D.Disk c.args.parts.now c.args.pending.now c.args.call c.args.work.now c.args.past.now (other-kind kind.Estimate (machine_in c.args.parts.now.ledger) c.args.call.agent c.args.call.op refl (as-kind _ kind.Estimate (machine_in c.args.parts.now.ledger) c.args.call.agent c.args.call.op c.in-Estimate.is c.kind_of-kind.ensures)) c.requires.go

pub act_estimate-requires-clause-word : goal.act_estimate-requires-clause-word
act_estimate-requires-clause-word g c = as-kind _ kind.Estimate (machine_in c.args.parts.now.ledger) c.args.call.agent c.args.call.op c.in-Estimate.is c.kind_of-kind.ensures

pub returns-in-Estimate-clause-acted : goal.returns-in-Estimate-clause-acted
returns-in-Estimate-clause-acted g c f recorded held whole asked =
    c.act_estimate.ensures.acted f recorded held
    (plain-asked g.D.Disk.tells f.opening c.args.parts.now.ledger.books.history c.args.pending.now c.args.parts.now.ledger.books.state c.args.call c.args.work.now c.args.past.now (other-kind kind.Estimate (machine_in c.args.parts.now.ledger) c.args.call.agent c.args.call.op refl (as-kind _ kind.Estimate (machine_in c.args.parts.now.ledger) c.args.call.agent c.args.call.op c.in-Estimate.is c.kind_of-kind.ensures)) asked)

pub act_keep_back-requires-clause-go : goal.act_keep_back-requires-clause-go
act_keep_back-requires-clause-go g c =
    plain-go g.D.Disk c.args.parts.now c.args.pending.now c.args.call c.args.work.now c.args.past.now (other-kind kind.Kept (machine_in c.args.parts.now.ledger) c.args.call.agent c.args.call.op refl (as-kind _ kind.Kept (machine_in c.args.parts.now.ledger) c.args.call.agent c.args.call.op c.in-Kept.is c.kind_of-kind.ensures)) c.requires.go

pub act_keep_back-requires-clause-word : goal.act_keep_back-requires-clause-word
act_keep_back-requires-clause-word g c = as-kind _ kind.Kept (machine_in c.args.parts.now.ledger) c.args.call.agent c.args.call.op c.in-Kept.is c.kind_of-kind.ensures

pub returns-in_ok-act_keep_back-in-Kept-clause-acted : goal.returns-in_ok-act_keep_back-in-Kept-clause-acted
returns-in_ok-act_keep_back-in-Kept-clause-acted g c f recorded held whole asked =
    c.in_ok-act_keep_back-in-Kept.ensures.acted f recorded held
    (plain-asked g.D.Disk.tells f.opening c.args.parts.now.ledger.books.history c.args.pending.now c.args.parts.now.ledger.books.state c.args.call c.args.work.now c.args.past.now (other-kind kind.Kept (machine_in c.args.parts.now.ledger) c.args.call.agent c.args.call.op refl (as-kind _ kind.Kept (machine_in c.args.parts.now.ledger) c.args.call.agent c.args.call.op c.in-Kept.is c.kind_of-kind.ensures)) asked)

pub returns-in_err-act_keep_back-in-Kept-clause-ends : goal.returns-in_err-act_keep_back-in-Kept-clause-ends
returns-in_err-act_keep_back-in-Kept-clause-ends g c end = absurd (never-ends kind.Kept (machine_in c.args.parts.now.ledger) c.args.call.agent c.args.call.op refl (as-kind _ kind.Kept (machine_in c.args.parts.now.ledger) c.args.call.agent c.args.call.op c.in-Kept.is c.kind_of-kind.ensures) end)

pub act_get_file-requires-clause-go : goal.act_get_file-requires-clause-go
act_get_file-requires-clause-go g c =
    plain-go g.D.Disk c.args.parts.now c.args.pending.now c.args.call c.args.work.now c.args.past.now (other-kind kind.GetFile (machine_in c.args.parts.now.ledger) c.args.call.agent c.args.call.op refl (as-kind _ kind.GetFile (machine_in c.args.parts.now.ledger) c.args.call.agent c.args.call.op c.in-GetFile.is c.kind_of-kind.ensures)) c.requires.go

pub act_get_file-requires-clause-word : goal.act_get_file-requires-clause-word
act_get_file-requires-clause-word g c = as-kind _ kind.GetFile (machine_in c.args.parts.now.ledger) c.args.call.agent c.args.call.op c.in-GetFile.is c.kind_of-kind.ensures

pub returns-in_ok-act_get_file-in-GetFile-clause-acted : goal.returns-in_ok-act_get_file-in-GetFile-clause-acted
returns-in_ok-act_get_file-in-GetFile-clause-acted g c f recorded held whole asked =
    c.in_ok-act_get_file-in-GetFile.ensures.acted f recorded held whole
    (plain-asked g.D.Disk.tells f.opening c.args.parts.now.ledger.books.history c.args.pending.now c.args.parts.now.ledger.books.state c.args.call c.args.work.now c.args.past.now (other-kind kind.GetFile (machine_in c.args.parts.now.ledger) c.args.call.agent c.args.call.op refl (as-kind _ kind.GetFile (machine_in c.args.parts.now.ledger) c.args.call.agent c.args.call.op c.in-GetFile.is c.kind_of-kind.ensures)) asked)

pub returns-in_err-act_get_file-in-GetFile-clause-ends : goal.returns-in_err-act_get_file-in-GetFile-clause-ends
returns-in_err-act_get_file-in-GetFile-clause-ends g c end = absurd (never-ends kind.GetFile (machine_in c.args.parts.now.ledger) c.args.call.agent c.args.call.op refl (as-kind _ kind.GetFile (machine_in c.args.parts.now.ledger) c.args.call.agent c.args.call.op c.in-GetFile.is c.kind_of-kind.ensures) end)

pub act_open-requires-clause-go : goal.act_open-requires-clause-go
act_open-requires-clause-go g c =
    plain-go g.D.Disk c.args.parts.now c.args.pending.now c.args.call c.args.work.now c.args.past.now (other-kind kind.Opened (machine_in c.args.parts.now.ledger) c.args.call.agent c.args.call.op refl (as-kind _ kind.Opened (machine_in c.args.parts.now.ledger) c.args.call.agent c.args.call.op c.in-Opened.is c.kind_of-kind.ensures)) c.requires.go

pub act_open-requires-clause-word : goal.act_open-requires-clause-word
act_open-requires-clause-word g c = as-kind _ kind.Opened (machine_in c.args.parts.now.ledger) c.args.call.agent c.args.call.op c.in-Opened.is c.kind_of-kind.ensures

pub returns-in_ok-act_open-in-Opened-clause-acted : goal.returns-in_ok-act_open-in-Opened-clause-acted
returns-in_ok-act_open-in-Opened-clause-acted g c f recorded held whole asked =
    c.in_ok-act_open-in-Opened.ensures.acted f recorded held
    (plain-asked g.D.Disk.tells f.opening c.args.parts.now.ledger.books.history c.args.pending.now c.args.parts.now.ledger.books.state c.args.call c.args.work.now c.args.past.now (other-kind kind.Opened (machine_in c.args.parts.now.ledger) c.args.call.agent c.args.call.op refl (as-kind _ kind.Opened (machine_in c.args.parts.now.ledger) c.args.call.agent c.args.call.op c.in-Opened.is c.kind_of-kind.ensures)) asked)

pub returns-in_err-act_open-in-Opened-clause-ends : goal.returns-in_err-act_open-in-Opened-clause-ends
returns-in_err-act_open-in-Opened-clause-ends g c end = absurd (never-ends kind.Opened (machine_in c.args.parts.now.ledger) c.args.call.agent c.args.call.op refl (as-kind _ kind.Opened (machine_in c.args.parts.now.ledger) c.args.call.agent c.args.call.op c.in-Opened.is c.kind_of-kind.ensures) end)

pub act_put-requires-clause-go : goal.act_put-requires-clause-go
act_put-requires-clause-go g c =
    plain-go g.D.Disk c.args.parts.now c.args.pending.now c.args.call c.args.work.now c.args.past.now (other-kind kind.Put (machine_in c.args.parts.now.ledger) c.args.call.agent c.args.call.op refl (as-kind _ kind.Put (machine_in c.args.parts.now.ledger) c.args.call.agent c.args.call.op c.in-Put.is c.kind_of-kind.ensures)) c.requires.go

pub act_put-requires-clause-word : goal.act_put-requires-clause-word
act_put-requires-clause-word g c = as-kind _ kind.Put (machine_in c.args.parts.now.ledger) c.args.call.agent c.args.call.op c.in-Put.is c.kind_of-kind.ensures

pub returns-in_ok-act_put-in-Put-clause-acted : goal.returns-in_ok-act_put-in-Put-clause-acted
returns-in_ok-act_put-in-Put-clause-acted g c f recorded held whole asked =
    c.in_ok-act_put-in-Put.ensures.acted f recorded held
    (plain-asked g.D.Disk.tells f.opening c.args.parts.now.ledger.books.history c.args.pending.now c.args.parts.now.ledger.books.state c.args.call c.args.work.now c.args.past.now (other-kind kind.Put (machine_in c.args.parts.now.ledger) c.args.call.agent c.args.call.op refl (as-kind _ kind.Put (machine_in c.args.parts.now.ledger) c.args.call.agent c.args.call.op c.in-Put.is c.kind_of-kind.ensures)) asked)

pub returns-in_err-act_put-in-Put-clause-ends : goal.returns-in_err-act_put-in-Put-clause-ends
returns-in_err-act_put-in-Put-clause-ends g c end = absurd (never-ends kind.Put (machine_in c.args.parts.now.ledger) c.args.call.agent c.args.call.op refl (as-kind _ kind.Put (machine_in c.args.parts.now.ledger) c.args.call.agent c.args.call.op c.in-Put.is c.kind_of-kind.ensures) end)

pub act_sync_read-requires-clause-go : goal.act_sync_read-requires-clause-go
act_sync_read-requires-clause-go g c =
    plain-go g.D.Disk c.args.parts.now c.args.pending.now c.args.call c.args.work.now c.args.past.now (other-kind kind.SyncRead (machine_in c.args.parts.now.ledger) c.args.call.agent c.args.call.op refl (as-kind _ kind.SyncRead (machine_in c.args.parts.now.ledger) c.args.call.agent c.args.call.op c.in-SyncRead.is c.kind_of-kind.ensures)) c.requires.go

pub act_sync_read-requires-clause-word : goal.act_sync_read-requires-clause-word
act_sync_read-requires-clause-word g c = as-kind _ kind.SyncRead (machine_in c.args.parts.now.ledger) c.args.call.agent c.args.call.op c.in-SyncRead.is c.kind_of-kind.ensures

pub returns-in_ok-act_sync_read-in-SyncRead-clause-acted : goal.returns-in_ok-act_sync_read-in-SyncRead-clause-acted
returns-in_ok-act_sync_read-in-SyncRead-clause-acted g c f recorded held whole asked =
    c.in_ok-act_sync_read-in-SyncRead.ensures.acted f recorded held whole
    (plain-asked g.D.Disk.tells f.opening c.args.parts.now.ledger.books.history c.args.pending.now c.args.parts.now.ledger.books.state c.args.call c.args.work.now c.args.past.now (other-kind kind.SyncRead (machine_in c.args.parts.now.ledger) c.args.call.agent c.args.call.op refl (as-kind _ kind.SyncRead (machine_in c.args.parts.now.ledger) c.args.call.agent c.args.call.op c.in-SyncRead.is c.kind_of-kind.ensures)) asked)

pub returns-in_err-act_sync_read-in-SyncRead-clause-ends : goal.returns-in_err-act_sync_read-in-SyncRead-clause-ends
returns-in_err-act_sync_read-in-SyncRead-clause-ends g c end = absurd (never-ends kind.SyncRead (machine_in c.args.parts.now.ledger) c.args.call.agent c.args.call.op refl (as-kind _ kind.SyncRead (machine_in c.args.parts.now.ledger) c.args.call.agent c.args.call.op c.in-SyncRead.is c.kind_of-kind.ensures) end)

pub act_content-requires-clause-go : goal.act_content-requires-clause-go
act_content-requires-clause-go g c =
    plain-go g.D.Disk c.args.parts.now c.args.pending.now c.args.call c.args.work.now c.args.past.now (other-kind kind.Stored (machine_in c.args.parts.now.ledger) c.args.call.agent c.args.call.op refl (as-kind _ kind.Stored (machine_in c.args.parts.now.ledger) c.args.call.agent c.args.call.op c.in-Stored.is c.kind_of-kind.ensures)) c.requires.go

pub act_content-requires-clause-word : goal.act_content-requires-clause-word
act_content-requires-clause-word g c = as-kind _ kind.Stored (machine_in c.args.parts.now.ledger) c.args.call.agent c.args.call.op c.in-Stored.is c.kind_of-kind.ensures

pub returns-in_ok-act_content-in-Stored-clause-acted : goal.returns-in_ok-act_content-in-Stored-clause-acted
returns-in_ok-act_content-in-Stored-clause-acted g c f recorded held whole asked =
    c.in_ok-act_content-in-Stored.ensures.acted f recorded held whole
    (plain-asked g.D.Disk.tells f.opening c.args.parts.now.ledger.books.history c.args.pending.now c.args.parts.now.ledger.books.state c.args.call c.args.work.now c.args.past.now (other-kind kind.Stored (machine_in c.args.parts.now.ledger) c.args.call.agent c.args.call.op refl (as-kind _ kind.Stored (machine_in c.args.parts.now.ledger) c.args.call.agent c.args.call.op c.in-Stored.is c.kind_of-kind.ensures)) asked)

pub returns-in_err-act_content-in-Stored-clause-ends : goal.returns-in_err-act_content-in-Stored-clause-ends
returns-in_err-act_content-in-Stored-clause-ends g c end = absurd (never-ends kind.Stored (machine_in c.args.parts.now.ledger) c.args.call.agent c.args.call.op refl (as-kind _ kind.Stored (machine_in c.args.parts.now.ledger) c.args.call.agent c.args.call.op c.in-Stored.is c.kind_of-kind.ensures) end)

pub act_idle_flush-requires-clause-go : goal.act_idle_flush-requires-clause-go
act_idle_flush-requires-clause-go g c =
    plain-go g.D.Disk c.args.parts.now c.args.pending.now c.args.call c.args.work.now c.args.past.now (other-kind kind.Idle (machine_in c.args.parts.now.ledger) c.args.call.agent c.args.call.op refl (as-kind _ kind.Idle (machine_in c.args.parts.now.ledger) c.args.call.agent c.args.call.op c.in-Idle.is c.kind_of-kind.ensures)) c.requires.go

pub act_idle_flush-requires-clause-word : goal.act_idle_flush-requires-clause-word
act_idle_flush-requires-clause-word g c = as-kind _ kind.Idle (machine_in c.args.parts.now.ledger) c.args.call.agent c.args.call.op c.in-Idle.is c.kind_of-kind.ensures

pub returns-in_ok-act_idle_flush-in-Idle-clause-acted : goal.returns-in_ok-act_idle_flush-in-Idle-clause-acted
returns-in_ok-act_idle_flush-in-Idle-clause-acted g c f recorded held whole asked =
    c.in_ok-act_idle_flush-in-Idle.ensures.acted f recorded held whole
    (plain-asked g.D.Disk.tells f.opening c.args.parts.now.ledger.books.history c.args.pending.now c.args.parts.now.ledger.books.state c.args.call c.args.work.now c.args.past.now (other-kind kind.Idle (machine_in c.args.parts.now.ledger) c.args.call.agent c.args.call.op refl (as-kind _ kind.Idle (machine_in c.args.parts.now.ledger) c.args.call.agent c.args.call.op c.in-Idle.is c.kind_of-kind.ensures)) asked)

pub returns-in_err-act_idle_flush-in-Idle-clause-ends : goal.returns-in_err-act_idle_flush-in-Idle-clause-ends
returns-in_err-act_idle_flush-in-Idle-clause-ends g c end = absurd (never-ends kind.Idle (machine_in c.args.parts.now.ledger) c.args.call.agent c.args.call.op refl (as-kind _ kind.Idle (machine_in c.args.parts.now.ledger) c.args.call.agent c.args.call.op c.in-Idle.is c.kind_of-kind.ensures) end)

pub act_close_without_store-requires-clause-go : goal.act_close_without_store-requires-clause-go
act_close_without_store-requires-clause-go g c =
    plain-go g.D.Disk c.args.parts.now c.args.pending.now c.args.call c.args.work.now c.args.past.now (other-kind kind.Left (machine_in c.args.parts.now.ledger) c.args.call.agent c.args.call.op refl (as-kind _ kind.Left (machine_in c.args.parts.now.ledger) c.args.call.agent c.args.call.op c.in-Left.is c.kind_of-kind.ensures)) c.requires.go

pub act_close_without_store-requires-clause-word : goal.act_close_without_store-requires-clause-word
act_close_without_store-requires-clause-word g c = as-kind _ kind.Left (machine_in c.args.parts.now.ledger) c.args.call.agent c.args.call.op c.in-Left.is c.kind_of-kind.ensures

pub returns-in-Left-clause-acted : goal.returns-in-Left-clause-acted
returns-in-Left-clause-acted g c f recorded held whole asked =
    c.act_close_without_store.ensures.acted f recorded held
    (plain-asked g.D.Disk.tells f.opening c.args.parts.now.ledger.books.history c.args.pending.now c.args.parts.now.ledger.books.state c.args.call c.args.work.now c.args.past.now (other-kind kind.Left (machine_in c.args.parts.now.ledger) c.args.call.agent c.args.call.op refl (as-kind _ kind.Left (machine_in c.args.parts.now.ledger) c.args.call.agent c.args.call.op c.in-Left.is c.kind_of-kind.ensures)) asked)

pub kind_of-kind-requires-clause-agent : goal.kind_of-kind-requires-clause-agent
kind_of-kind-requires-clause-agent g c =
    let go = c.requires.go in
    (c.asking_laws.ensures.asks.taken go.fixed go.recorded c.args.parts.now.ledger c.args.parts.now.pages c.args.pending.now c.args.call c.args.work.now c.args.past.now go.are go.asked).agent

pub kind_of-kind-requires-clause-handle : goal.kind_of-kind-requires-clause-handle
kind_of-kind-requires-clause-handle g c =
    let go = c.requires.go in
    let laws = c.asking_laws.ensures in
    let agent = (laws.asks.taken go.fixed go.recorded c.args.parts.now.ledger c.args.parts.now.pages c.args.pending.now c.args.call c.args.work.now c.args.past.now go.are go.asked).agent in
    has-handle g.D.Disk laws.follow laws.local go.fixed go.recorded c.args.parts.now.ledger c.args.parts.now.pages c.args.pending.now c.args.call c.args.work.now c.args.past.now (record { held = go.are; asked = go.asked }) agent
