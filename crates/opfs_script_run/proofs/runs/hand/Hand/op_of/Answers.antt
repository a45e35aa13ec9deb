use Rattle.opfs_script_run.proofs.runs.Defaults.{same_op, op_of-row}
use Rattle.opfs_script_run.proofs.runs.hand.Hand.op_of.Goals as goal

pub returns-in-GetDirectoryHandle : goal.returns-in-GetDirectoryHandle
returns-in-GetDirectoryHandle c = rw c.in-GetDirectoryHandle.is c.get_directory_handle.ensures

pub returns-in-GetFileHandle : goal.returns-in-GetFileHandle
returns-in-GetFileHandle c = rw c.in-GetFileHandle.is c.get_file_handle.ensures

pub returns-in-RemoveEntry : goal.returns-in-RemoveEntry
returns-in-RemoveEntry c = rw c.in-RemoveEntry.is c.remove_entry.ensures

pub returns-in-CreateWritable : goal.returns-in-CreateWritable
returns-in-CreateWritable c = rw c.in-CreateWritable.is c.create_writable.ensures

pub returns-in-CreateSyncAccessHandle : goal.returns-in-CreateSyncAccessHandle
returns-in-CreateSyncAccessHandle c = rw c.in-CreateSyncAccessHandle.is c.create_sync_access_handle.ensures

pub returns-in_default : goal.returns-in_default
returns-in_default c =
    same_op _ _ _
    (op_of-row c.args.self.now c.args.step.now c.in_default.not-GetDirectoryHandle c.in_default.not-GetFileHandle
    c.in_default.not-RemoveEntry c.in_default.not-Values c.in_default.not-Next c.in_default.not-Resolve
    c.in_default.not-IsSameEntry c.in_default.not-GetFile c.in_default.not-CreateWritable
    c.in_default.not-CreateSyncAccessHandle)
    c.row_op.ensures
