-- The shape of a step: this project's own.
use Rattle.std.specs.Prelude.{true, false, Option, Some, None, codes}
use Rattle.serde_json.specs.Data as json
use Rattle.opfs_base.specs.Units.{default_bucket}
use Rattle.opfs_hist.specs.declared.op.Word.{Word}
use Rattle.opfs_hist.specs.declared.op.Word.TheVariants as word
use Rattle.opfs_script.specs.declared.step.Step.{Step}
use Rattle.opfs_script.specs.declared.step.Step.TheVariants as step
use Rattle.opfs_script.specs.Members.{◌>>=◌, has_only, text, text_or, flag, number, optional_number, read_only, bytes}
use Rattle.opfs_script.specs.Words.{members_of}
use Rattle.opfs_script.specs.Limits.{keeps_bounds}

-- The step of a word with an object's members.
abbrev pub built : Word → json.Data → Option Step
built word.GetDirectory value = do
  bucket ← text_or default_bucket (codes "bucket") value
  bind ← text (codes "as") value
  Some (step.GetDirectory bucket bind)
built word.GetDirectoryHandle value = do
  dir ← text (codes "dir") value
  name ← text (codes "name") value
  create ← flag (codes "create") value
  bind ← text (codes "as") value
  Some (step.GetDirectoryHandle dir name create bind)
built word.GetFileHandle value = do
  dir ← text (codes "dir") value
  name ← text (codes "name") value
  create ← flag (codes "create") value
  bind ← text (codes "as") value
  Some (step.GetFileHandle dir name create bind)
built word.RemoveEntry value = do
  dir ← text (codes "dir") value
  name ← text (codes "name") value
  recursive ← flag (codes "recursive") value
  Some (step.RemoveEntry dir name recursive)
built word.Values value = do
  dir ← text (codes "dir") value
  bind ← text (codes "as") value
  Some (step.Values dir bind)
built word.Next value = do
  iterator ← text (codes "iterator") value
  bind ← text (codes "as") value
  Some (step.Next iterator bind)
built word.Resolve value = do
  dir ← text (codes "dir") value
  entry ← text (codes "entry") value
  Some (step.Resolve dir entry)
built word.IsSameEntry value = do
  entry ← text (codes "entry") value
  other ← text (codes "other") value
  Some (step.IsSameEntry entry other)
built word.GetFile value = do
  file ← text (codes "file") value
  bind ← text (codes "as") value
  Some (step.GetFile file bind)
built word.Slice value = do
  snapshot ← text (codes "snapshot") value
  at ← number (codes "at") value
  len ← number (codes "len") value
  Some (step.Slice snapshot at len)
built word.CreateWritable value = do
  file ← text (codes "file") value
  keep ← flag (codes "keepExistingData") value
  bind ← text (codes "as") value
  Some (step.CreateWritable file keep bind)
built word.Write value = do
  stream ← text (codes "stream") value
  bytes ← bytes (codes "data") value
  position ← optional_number (codes "position") value
  Some (step.Write stream bytes position)
built word.Seek value = do
  stream ← text (codes "stream") value
  position ← number (codes "position") value
  Some (step.Seek stream position)
built word.Truncate value = do
  stream ← text (codes "stream") value
  size ← number (codes "size") value
  Some (step.Truncate stream size)
built word.Close value = do
  stream ← text (codes "stream") value
  Some (step.Close stream)
built word.Abort value = do
  stream ← text (codes "stream") value
  Some (step.Abort stream)
built word.CreateSyncAccessHandle value = do
  file ← text (codes "file") value
  mode ← read_only (codes "mode") value
  bind ← text (codes "as") value
  Some (step.CreateSyncAccessHandle file mode bind)
built word.SyncRead value = do
  sync ← text (codes "sync") value
  len ← number (codes "len") value
  at ← optional_number (codes "at") value
  Some (step.SyncRead sync len at)
built word.SyncWrite value = do
  sync ← text (codes "sync") value
  bytes ← bytes (codes "data") value
  at ← optional_number (codes "at") value
  Some (step.SyncWrite sync bytes at)
built word.SyncTruncate value = do
  sync ← text (codes "sync") value
  size ← number (codes "size") value
  Some (step.SyncTruncate sync size)
built word.SyncGetSize value = do
  sync ← text (codes "sync") value
  Some (step.SyncGetSize sync)
built word.SyncFlush value = do
  sync ← text (codes "sync") value
  Some (step.SyncFlush sync)
built word.SyncClose value = do
  sync ← text (codes "sync") value
  Some (step.SyncClose sync)
built word.Persist value = do
  bucket ← text_or default_bucket (codes "bucket") value
  Some (step.Persist bucket)
built word.Persisted value = do
  bucket ← text_or default_bucket (codes "bucket") value
  Some (step.Persisted bucket)
built word.Estimate value = Some step.Estimate
built word.Moment value = do
  ms ← number (codes "ms") value
  Some (step.Moment ms)
built word.Post value = do
  tag ← text (codes "tag") value
  Some (step.Post tag)
built word.Await value = do
  tag ← text (codes "tag") value
  Some (step.Await tag)

-- A step whose members keep their bounds.
abbrev pub if_bounded : Step → Option Step
if_bounded made = elim (keeps_bounds made) [ true ↦ Some made | false ↦ None ]

-- The step of a word that an object tells: it has the word's members, each of its form and in its bounds, and no other.
unfoldable pub shaped : Word → json.Data → Option Step
shaped w value = elim (has_only (members_of w) value) [ true ↦ built w value >>= if_bounded | false ↦ None ]
