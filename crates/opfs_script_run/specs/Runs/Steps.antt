-- What steps ask, by what they name. This project's own.
use Rattle.opfs_hist.specs.declared.op.Op.{Op}
use Rattle.opfs_hist.specs.declared.op.Op.TheVariants as op
use Rattle.opfs_hist.specs.declared.op.Word.TheVariants as word
use Rattle.opfs_script.specs.declared.step.Step.{Step}
use Rattle.opfs_script.specs.declared.step.Step.TheVariants as step
use Rattle.opfs_script_run.specs.declared.runs.hand.Hand.{Hand}
use Rattle.opfs_script_run.specs.Runs.Running.{named_by, a_stream, a_handle, a_snapshot, called}

-- What a step that names no variable asks; an estimate for any other.
abbrev pub plain_op : Step → Op
plain_op (step.GetDirectory bucket bind) = op.GetDirectory bucket
plain_op (step.Persist bucket) = op.Persist bucket
plain_op (step.Persisted bucket) = op.Persisted bucket
plain_op (step.Moment ms) = op.Moment ms
plain_op (step.Post tag) = op.Post tag
plain_op (step.Await tag) = op.Await tag
plain_op s = op.Estimate

-- What a step that names an access handle asks; what a plain step does for any other.
abbrev pub handle_op : Hand → Step → Op
handle_op h (step.SyncRead sync len at) = called word.SyncRead (a_handle (named_by h sync)) (λ n. op.SyncRead n len at)
handle_op h (step.SyncWrite sync bytes at) = called word.SyncWrite (a_handle (named_by h sync)) (λ n. op.SyncWrite n bytes at)
handle_op h (step.SyncTruncate sync size) = called word.SyncTruncate (a_handle (named_by h sync)) (λ n. op.SyncTruncate n size)
handle_op h (step.SyncGetSize sync) = called word.SyncGetSize (a_handle (named_by h sync)) (λ n. op.SyncGetSize n)
handle_op h (step.SyncFlush sync) = called word.SyncFlush (a_handle (named_by h sync)) (λ n. op.SyncFlush n)
handle_op h (step.SyncClose sync) = called word.SyncClose (a_handle (named_by h sync)) (λ n. op.SyncClose n)
handle_op h s = plain_op s

-- What a step that names a stream or a snapshot asks; what a step on handles does for any other.
abbrev pub row_op : Hand → Step → Op
row_op h (step.Slice snapshot at len) = called word.Slice (a_snapshot (named_by h snapshot)) (λ n. op.Slice n at len)
row_op h (step.Write stream bytes position) =
    called word.Write (a_stream (named_by h stream)) (λ n. op.Write n bytes position)
row_op h (step.Seek stream position) = called word.Seek (a_stream (named_by h stream)) (λ n. op.Seek n position)
row_op h (step.Truncate stream size) = called word.Truncate (a_stream (named_by h stream)) (λ n. op.Truncate n size)
row_op h (step.Close stream) = called word.Close (a_stream (named_by h stream)) (λ n. op.Close n)
row_op h (step.Abort stream) = called word.Abort (a_stream (named_by h stream)) (λ n. op.Abort n)
row_op h s = handle_op h s
