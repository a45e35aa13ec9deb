use Rattle.opfs_script_run.proofs.runs.Defaults.{same_op, handle_op-plain}
use Rattle.opfs_script_run.proofs.runs.asking.handle_op.Goals as goal

pub returns-in-SyncRead : goal.returns-in-SyncRead
returns-in-SyncRead c = rw c.in-SyncRead.is c.sync_read.ensures

pub returns-in-SyncWrite : goal.returns-in-SyncWrite
returns-in-SyncWrite c = rw c.in-SyncWrite.is c.sync_write.ensures

pub returns-in-SyncTruncate : goal.returns-in-SyncTruncate
returns-in-SyncTruncate c = rw c.in-SyncTruncate.is c.sync_truncate.ensures

pub returns-in_default : goal.returns-in_default
returns-in_default c =
    same_op _ _ _
    (handle_op-plain c.args.hand.now c.args.step.now c.in_default.not-SyncRead c.in_default.not-SyncWrite
    c.in_default.not-SyncTruncate c.in_default.not-SyncGetSize c.in_default.not-SyncFlush c.in_default.not-SyncClose)
    c.plain_op.ensures
