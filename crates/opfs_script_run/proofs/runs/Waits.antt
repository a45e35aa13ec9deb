-- No step of a script asks to wait.
use Rattle.std.proofs.Common.{◌≡◌, false, Option, Some, None, refl}
use Rattle.opfs_hist.specs.declared.op.Op.{Op}
use Rattle.opfs_hist.specs.declared.op.Op.TheVariants as op
use Rattle.opfs_hist.specs.declared.op.Word.{Word}
use Rattle.opfs_hist.specs.declared.op.Word.TheVariants as word
use Rattle.opfs_script.specs.declared.step.Step.{Step}
use Rattle.opfs_script.specs.declared.step.Step.TheVariants as step
use Rattle.opfs_script_run.specs.declared.runs.hand.Hand.{Hand}
use Rattle.opfs_script_run.specs.declared.runs.hand.Named.{Named}
use Rattle.opfs_script_run.specs.declared.runs.hand.Named.TheVariants as named
use Rattle.opfs_script_run.specs.Runs.Running.{op_of, next_op, is_wait, called, called_by_two, named_by, a_directory, a_file, an_entry, a_stream, a_handle, a_snapshot, mode_of}

called_waits : {A : Type 0} (w : Word) (x : Option A) (f : A → Op) → ((a : A) → is_wait (f a) ≡ false) → is_wait (called w x f) ≡ false
called_waits w None f h = refl
called_waits w (Some a) f h = h a

called_two_waits : {A B : Type 0} (w : Word) (x : Option A) (y : Option B) (f : A → B → Op)
    → ((a : A) (b : B) → is_wait (f a b) ≡ false) → is_wait (called_by_two w x y f) ≡ false
called_two_waits w (Some a) (Some b) f h = h a b
called_two_waits w (Some a) None f h = refl
called_two_waits w None y f h = refl

next_waits : (x : Option Named) → is_wait (next_op x) ≡ false
next_waits (Some (named.Iterator n dir)) = refl
next_waits (Some (named.Directory at)) = refl
next_waits (Some (named.File at)) = refl
next_waits (Some (named.Stream n)) = refl
next_waits (Some (named.Handle n)) = refl
next_waits (Some (named.Snapshot n)) = refl
next_waits None = refl

-- No step asks to wait.
pub never_waits : (h : Hand) (s : Step) → is_wait (op_of h s) ≡ false
never_waits h (step.GetDirectory bucket bind) = refl
never_waits h (step.GetDirectoryHandle dir name create bind) = called_waits word.GetDirectoryHandle (a_directory (named_by h dir)) (λ x. op.GetDirectoryHandle x name create) (λ a. refl)
never_waits h (step.GetFileHandle dir name create bind) = called_waits word.GetFileHandle (a_directory (named_by h dir)) (λ x. op.GetFileHandle x name create) (λ a. refl)
never_waits h (step.RemoveEntry dir name recursive) = called_waits word.RemoveEntry (a_directory (named_by h dir)) (λ x. op.RemoveEntry x name recursive) (λ a. refl)
never_waits h (step.Values dir bind) = called_waits word.Values (a_directory (named_by h dir)) (λ x. op.Values x) (λ a. refl)
never_waits h (step.Next from bind) = next_waits (named_by h from)
never_waits h (step.Resolve dir entry) = called_two_waits word.Resolve (a_directory (named_by h dir)) (an_entry (named_by h entry)) (λ x y. op.Resolve x y) (λ a b. refl)
never_waits h (step.IsSameEntry entry other) = called_two_waits word.IsSameEntry (an_entry (named_by h entry)) (an_entry (named_by h other)) (λ x y. op.IsSameEntry x y) (λ a b. refl)
never_waits h (step.GetFile file bind) = called_waits word.GetFile (a_file (named_by h file)) (λ x. op.GetFile x) (λ a. refl)
never_waits h (step.Slice snapshot at len) = called_waits word.Slice (a_snapshot (named_by h snapshot)) (λ x. op.Slice x at len) (λ a. refl)
never_waits h (step.CreateWritable file keep bind) = called_waits word.CreateWritable (a_file (named_by h file)) (λ x. op.CreateWritable x keep) (λ a. refl)
never_waits h (step.Write stream bytes position) = called_waits word.Write (a_stream (named_by h stream)) (λ x. op.Write x bytes position) (λ a. refl)
never_waits h (step.Seek stream position) = called_waits word.Seek (a_stream (named_by h stream)) (λ x. op.Seek x position) (λ a. refl)
never_waits h (step.Truncate stream size) = called_waits word.Truncate (a_stream (named_by h stream)) (λ x. op.Truncate x size) (λ a. refl)
never_waits h (step.Close stream) = called_waits word.Close (a_stream (named_by h stream)) (λ x. op.Close x) (λ a. refl)
never_waits h (step.Abort stream) = called_waits word.Abort (a_stream (named_by h stream)) (λ x. op.Abort x) (λ a. refl)
never_waits h (step.CreateSyncAccessHandle file read_only bind) = called_waits word.CreateSyncAccessHandle (a_file (named_by h file)) (λ x. op.CreateSyncAccessHandle x (mode_of read_only)) (λ a. refl)
never_waits h (step.SyncRead sync len at) = called_waits word.SyncRead (a_handle (named_by h sync)) (λ x. op.SyncRead x len at) (λ a. refl)
never_waits h (step.SyncWrite sync bytes at) = called_waits word.SyncWrite (a_handle (named_by h sync)) (λ x. op.SyncWrite x bytes at) (λ a. refl)
never_waits h (step.SyncTruncate sync size) = called_waits word.SyncTruncate (a_handle (named_by h sync)) (λ x. op.SyncTruncate x size) (λ a. refl)
never_waits h (step.SyncGetSize sync) = called_waits word.SyncGetSize (a_handle (named_by h sync)) (λ x. op.SyncGetSize x) (λ a. refl)
never_waits h (step.SyncFlush sync) = called_waits word.SyncFlush (a_handle (named_by h sync)) (λ x. op.SyncFlush x) (λ a. refl)
never_waits h (step.SyncClose sync) = called_waits word.SyncClose (a_handle (named_by h sync)) (λ x. op.SyncClose x) (λ a. refl)
never_waits h (step.Persist bucket) = refl
never_waits h (step.Persisted bucket) = refl
never_waits h step.Estimate = refl
never_waits h (step.Moment ms) = refl
never_waits h (step.Post tag) = refl
never_waits h (step.Await tag) = refl
