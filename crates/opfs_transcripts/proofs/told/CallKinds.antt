-- What kind of line a call has.
use Rattle.std.proofs.Common.{◌≡◌, false, None, refl}
use Rattle.opfs_base.specs.Texts.{Text}
use Rattle.opfs_hist.specs.declared.entry.Entry.{Entry}
use Rattle.opfs_hist.specs.declared.op.Op.{Op}
use Rattle.opfs_hist.specs.declared.op.Op.TheVariants as op
use Rattle.opfs_hist.specs.declared.reply.Reply.{Reply}
use Rattle.opfs_machine.specs.Histories.{asks_stuck, evicted_by}
use Rattle.opfs_print.specs.Lines.{call_text, line_by}
use Rattle.opfs_script_run.specs.Runs.Running.{is_wait}
use Rattle.opfs_transcripts.specs.Told.Reading.{is_stuck_await}

-- A call that has a line of its own, and is no await.
pub record IsTold (called : Op) : Type 0 where
  pub line : (e : Entry) → line_by called e ≡ call_text e
  pub call : evicted_by called ≡ None
  pub moves : is_wait called ≡ false
  pub asks : asks_stuck called ≡ false
  pub free : (answered : Reply) → is_stuck_await called answered ≡ false

-- A wait has no line, an eviction one of its own kind, and every other call its word and reply.
pub data Kind : Op → Type 0 where
  a_wait : (tag : Text) → Kind (op.Wait tag)
  an_eviction : (unit : Text) → Kind (op.Evict unit)
  an_await : (tag : Text) → Kind (op.Await tag)
  a_call : {called : Op} → IsTold called → Kind called

pub kind_of : (called : Op) → Kind called
kind_of (op.Wait tag) = a_wait tag
kind_of (op.Evict unit) = an_eviction unit
kind_of (op.Await tag) = an_await tag
kind_of (op.GetDirectory bucket) = a_call (record { line = λ e. refl; call = refl; moves = refl; asks = refl; free = λ answered. refl })
kind_of (op.GetDirectoryHandle dir name create) = a_call (record { line = λ e. refl; call = refl; moves = refl; asks = refl; free = λ answered. refl })
kind_of (op.GetFileHandle dir name create) = a_call (record { line = λ e. refl; call = refl; moves = refl; asks = refl; free = λ answered. refl })
kind_of (op.RemoveEntry dir name recursive) = a_call (record { line = λ e. refl; call = refl; moves = refl; asks = refl; free = λ answered. refl })
kind_of (op.Values dir) = a_call (record { line = λ e. refl; call = refl; moves = refl; asks = refl; free = λ answered. refl })
kind_of (op.Next row dir) = a_call (record { line = λ e. refl; call = refl; moves = refl; asks = refl; free = λ answered. refl })
kind_of (op.Resolve dir entry) = a_call (record { line = λ e. refl; call = refl; moves = refl; asks = refl; free = λ answered. refl })
kind_of (op.IsSameEntry entry other) = a_call (record { line = λ e. refl; call = refl; moves = refl; asks = refl; free = λ answered. refl })
kind_of (op.GetFile file) = a_call (record { line = λ e. refl; call = refl; moves = refl; asks = refl; free = λ answered. refl })
kind_of (op.Slice row at len) = a_call (record { line = λ e. refl; call = refl; moves = refl; asks = refl; free = λ answered. refl })
kind_of (op.CreateWritable file keep) = a_call (record { line = λ e. refl; call = refl; moves = refl; asks = refl; free = λ answered. refl })
kind_of (op.Write row bytes position) = a_call (record { line = λ e. refl; call = refl; moves = refl; asks = refl; free = λ answered. refl })
kind_of (op.Seek row position) = a_call (record { line = λ e. refl; call = refl; moves = refl; asks = refl; free = λ answered. refl })
kind_of (op.Truncate row size) = a_call (record { line = λ e. refl; call = refl; moves = refl; asks = refl; free = λ answered. refl })
kind_of (op.Close row) = a_call (record { line = λ e. refl; call = refl; moves = refl; asks = refl; free = λ answered. refl })
kind_of (op.Abort row) = a_call (record { line = λ e. refl; call = refl; moves = refl; asks = refl; free = λ answered. refl })
kind_of (op.CreateSyncAccessHandle file mode) = a_call (record { line = λ e. refl; call = refl; moves = refl; asks = refl; free = λ answered. refl })
kind_of (op.SyncRead row len at) = a_call (record { line = λ e. refl; call = refl; moves = refl; asks = refl; free = λ answered. refl })
kind_of (op.SyncWrite row bytes at) = a_call (record { line = λ e. refl; call = refl; moves = refl; asks = refl; free = λ answered. refl })
kind_of (op.SyncTruncate row size) = a_call (record { line = λ e. refl; call = refl; moves = refl; asks = refl; free = λ answered. refl })
kind_of (op.SyncGetSize row) = a_call (record { line = λ e. refl; call = refl; moves = refl; asks = refl; free = λ answered. refl })
kind_of (op.SyncFlush row) = a_call (record { line = λ e. refl; call = refl; moves = refl; asks = refl; free = λ answered. refl })
kind_of (op.SyncClose row) = a_call (record { line = λ e. refl; call = refl; moves = refl; asks = refl; free = λ answered. refl })
kind_of (op.Persist bucket) = a_call (record { line = λ e. refl; call = refl; moves = refl; asks = refl; free = λ answered. refl })
kind_of (op.Persisted bucket) = a_call (record { line = λ e. refl; call = refl; moves = refl; asks = refl; free = λ answered. refl })
kind_of op.Estimate = a_call (record { line = λ e. refl; call = refl; moves = refl; asks = refl; free = λ answered. refl })
kind_of (op.Moment ms) = a_call (record { line = λ e. refl; call = refl; moves = refl; asks = refl; free = λ answered. refl })
kind_of (op.Post tag) = a_call (record { line = λ e. refl; call = refl; moves = refl; asks = refl; free = λ answered. refl })
kind_of (op.Discard row) = a_call (record { line = λ e. refl; call = refl; moves = refl; asks = refl; free = λ answered. refl })
kind_of op.End = a_call (record { line = λ e. refl; call = refl; moves = refl; asks = refl; free = λ answered. refl })
kind_of (op.Unbound word) = a_call (record { line = λ e. refl; call = refl; moves = refl; asks = refl; free = λ answered. refl })
