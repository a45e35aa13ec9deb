use Rattle.std.proofs.Common.{refl, sym, subst}
use Rattle.opfs_state_rows.proofs.changes.Plainly.{may_count}
use Rattle.opfs_state_rows.specs.Changes.Changed.{IsDone}
use Rattle.opfs_state.proofs.performing.perform.Goals as goal

pub post-requires-clause-ready : goal.post-requires-clause-ready
post-requires-clause-ready c = c.requires.ready.tag c.in-Post.tag (rw c.in-Post.is refl)

pub wait-requires-clause-ready : goal.wait-requires-clause-ready
wait-requires-clause-ready c = c.requires.ready.tag c.in-Wait.tag (rw c.in-Wait.is refl)

pub returns-in-Values-clause-done : goal.returns-in-Values-clause-done
returns-in-Values-clause-done c = λ extents. subst (λ o. IsDone c.args.store.now c.values.new.store c.args.sizes c.args.agent o extents) (sym c.in-Values.is) (c.values.ensures.done c.args.sizes _ extents)

pub returns-in-GetFile-clause-done : goal.returns-in-GetFile-clause-done
returns-in-GetFile-clause-done c = λ extents. subst (λ o. IsDone c.args.store.now c.get_file.new.store c.args.sizes c.args.agent o extents) (sym c.in-GetFile.is) (c.get_file.ensures.done extents)

pub returns-in-CreateWritable-clause-done : goal.returns-in-CreateWritable-clause-done
returns-in-CreateWritable-clause-done c = λ extents. subst (λ o. IsDone c.args.store.now c.create_writable.new.store c.args.sizes c.args.agent o extents) (sym c.in-CreateWritable.is) (c.create_writable.ensures.done extents)

pub returns-in-Write-clause-done : goal.returns-in-Write-clause-done
returns-in-Write-clause-done c = λ extents. subst (λ o. IsDone c.args.store.now c.write.new.store c.args.sizes c.args.agent o extents) (sym c.in-Write.is) (c.write.ensures.done extents)

pub returns-in-Truncate-clause-done : goal.returns-in-Truncate-clause-done
returns-in-Truncate-clause-done c = λ extents. subst (λ o. IsDone c.args.store.now c.truncate.new.store c.args.sizes c.args.agent o extents) (sym c.in-Truncate.is) (c.truncate.ensures.done extents)

pub returns-in-Abort-clause-done : goal.returns-in-Abort-clause-done
returns-in-Abort-clause-done c = λ extents. subst (λ o. IsDone c.args.store.now c.abort.new.store c.args.sizes c.args.agent o extents) (sym c.in-Abort.is) (c.abort.ensures.done extents)

pub returns-in-CreateSyncAccessHandle-clause-done : goal.returns-in-CreateSyncAccessHandle-clause-done
returns-in-CreateSyncAccessHandle-clause-done c = λ extents. subst (λ o. IsDone c.args.store.now c.create_sync.new.store c.args.sizes c.args.agent o extents) (sym c.in-CreateSyncAccessHandle.is) (c.create_sync.ensures.done extents)

pub returns-in-SyncWrite-clause-done : goal.returns-in-SyncWrite-clause-done
returns-in-SyncWrite-clause-done c = λ extents. subst (λ o. IsDone c.args.store.now c.sync_write.new.store c.args.sizes c.args.agent o extents) (sym c.in-SyncWrite.is) (c.sync_write.ensures.done extents)

pub returns-in-SyncTruncate-clause-done : goal.returns-in-SyncTruncate-clause-done
returns-in-SyncTruncate-clause-done c = λ extents. subst (λ o. IsDone c.args.store.now c.sync_truncate.new.store c.args.sizes c.args.agent o extents) (sym c.in-SyncTruncate.is) (c.sync_truncate.ensures.done extents)

pub returns-in-Persist-clause-done : goal.returns-in-Persist-clause-done
returns-in-Persist-clause-done c = λ extents. subst (λ o. IsDone c.args.store.now c.persist.new.store c.args.sizes c.args.agent o extents) (sym c.in-Persist.is) (c.persist.ensures.done extents)

pub returns-in-Moment-clause-done : goal.returns-in-Moment-clause-done
returns-in-Moment-clause-done c = λ extents. subst (λ o. IsDone c.args.store.now c.set_moment.new.store c.args.sizes c.args.agent o extents) (sym c.in-Moment.is) (c.set_moment.ensures.done c.args.sizes extents)

pub returns-in-Post-clause-done : goal.returns-in-Post-clause-done
returns-in-Post-clause-done c = λ extents. subst (λ o. IsDone c.args.store.now c.post.new.store c.args.sizes c.args.agent o extents) (sym c.in-Post.is) (c.post.ensures.done c.args.sizes extents)

pub returns-in-Await-clause-done : goal.returns-in-Await-clause-done
returns-in-Await-clause-done c = λ extents. subst (λ o. IsDone c.args.store.now c.await_tag.new.store c.args.sizes c.args.agent o extents) (sym c.in-Await.is) (c.await_tag.ensures.done c.args.sizes _ extents)

pub returns-in-Wait-clause-done : goal.returns-in-Wait-clause-done
returns-in-Wait-clause-done c = λ extents. subst (λ o. IsDone c.args.store.now c.wait.new.store c.args.sizes c.args.agent o extents) (sym c.in-Wait.is) (c.wait.ensures.done c.args.sizes extents)

pub returns-in-Discard-clause-done : goal.returns-in-Discard-clause-done
returns-in-Discard-clause-done c = λ extents. subst (λ o. IsDone c.args.store.now c.discard.new.store c.args.sizes c.args.agent o extents) (sym c.in-Discard.is) (c.discard.ensures.done extents)

pub returns-in-End-clause-done : goal.returns-in-End-clause-done
returns-in-End-clause-done c = λ extents. subst (λ o. IsDone c.args.store.now c.end.new.store c.args.sizes c.args.agent o extents) (sym c.in-End.is) (c.end.ensures.done c.args.sizes extents)

pub values-requires : goal.values-requires
values-requires c = record { may = may_count c.args.store.now.machine c.args.sizes c.args.agent c.args.op.now c.requires.may }

pub set_moment-requires : goal.set_moment-requires
set_moment-requires c = record { may = may_count c.args.store.now.machine c.args.sizes c.args.agent c.args.op.now c.requires.may }

pub post-requires-clause-may : goal.post-requires-clause-may
post-requires-clause-may c = may_count c.args.store.now.machine c.args.sizes c.args.agent c.args.op.now c.requires.may

pub wait-requires-clause-may : goal.wait-requires-clause-may
wait-requires-clause-may c = may_count c.args.store.now.machine c.args.sizes c.args.agent c.args.op.now c.requires.may

pub await_tag-requires : goal.await_tag-requires
await_tag-requires c = record { may = may_count c.args.store.now.machine c.args.sizes c.args.agent c.args.op.now c.requires.may }

pub end-requires : goal.end-requires
end-requires c = record { may = may_count c.args.store.now.machine c.args.sizes c.args.agent c.args.op.now c.requires.may }

pub tell-requires-clause-may : goal.tell-requires-clause-may
tell-requires-clause-may c = may_count c.args.store.now.machine c.args.sizes c.args.agent c.args.op.now c.requires.may

pub returns-in-Next-clause-done : goal.returns-in-Next-clause-done
returns-in-Next-clause-done c = λ extents. c.tell.ensures.done c.args.sizes extents
