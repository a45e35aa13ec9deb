-- Which steps bind a variable.
use Rattle.std.proofs.Common.{◌≡◌, ◌⊎◌, ℕ, Option, Some, None, refl, ap, ◌∙◌, inl, inr}
use Rattle.opfs_base.specs.Texts.{Text}
use Rattle.opfs_hist.specs.declared.op.Op.{Op}
use Rattle.opfs_hist.specs.declared.op.Op.TheVariants as op
use Rattle.opfs_hist.specs.declared.op.Word.{Word}
use Rattle.opfs_hist.specs.declared.op.Word.TheVariants as word
use Rattle.opfs_hist.specs.declared.reply.Reply.{Reply}
use Rattle.opfs_hist.specs.declared.reply.Reply.TheVariants as reply
use Rattle.opfs_script_run.specs.declared.runs.hand.Hand.{Hand}
use Rattle.opfs_script_run.specs.declared.runs.hand.Named.{Named}
use Rattle.opfs_script_run.specs.declared.runs.hand.Named.TheVariants as named
use Rattle.opfs_script_run.specs.Runs.Running.{named_by, op_of, called, called_by_two, a_directory, an_entry, a_stream, a_handle, a_snapshot, bind_name, hand_after, hand_then}
use Rattle.opfs_script.specs.declared.step.Step.{Step}
use Rattle.opfs_script.specs.declared.step.Step.TheVariants as step
use Rattle.opfs_runner.specs.RunLaws.Leaving.{snapshot_bound}

-- ---- the snapshot of a variable

some-same : {X : Type 0} {x y : X} → Some x ≡ Some y → x ≡ y
some-same e = cc

pub snapshot-named : (x : Option Named) (n : ℕ) → a_snapshot x ≡ Some n → x ≡ Some (named.Snapshot n)
snapshot-named (Some (named.Snapshot m)) n is = ap (λ k. Some (named.Snapshot k)) (some-same is)
snapshot-named (Some (named.Directory at)) n is = absurd cc
snapshot-named (Some (named.File at)) n is = absurd cc
snapshot-named (Some (named.Stream m)) n is = absurd cc
snapshot-named (Some (named.Handle m)) n is = absurd cc
snapshot-named (Some (named.Iterator m dir)) n is = absurd cc
snapshot-named None n is = absurd cc

-- ---- calls that bind nothing

abbrev Quiet : Hand → Op → Type 0
Quiet h o = (v : Text) (r : Reply) → (hand_after h v o r).bound ≡ h.bound

module _ (h : Hand) where
  quiet-one : {A : Type 0} (w : Word) (x : Option A) (f : A → Op) → ((a : A) → Quiet h (f a)) → Quiet h (called w x f)
  quiet-one w None f each v r = refl
  quiet-one w (Some a) f each v r = each a v r

  quiet-two : {A B : Type 0} (w : Word) (x : Option A) (y : Option B) (f : A → B → Op) → ((a : A) (b : B) → Quiet h (f a b)) → Quiet h (called_by_two w x y f)
  quiet-two w (Some a) (Some b) f each v r = each a b v r
  quiet-two w (Some a) None f each v r = refl
  quiet-two w None y f each v r = refl

  quiet-then : (s : Step) (o : Op) (r : Reply) → Quiet h o → (hand_then h s o r).bound ≡ h.bound
  quiet-then s o (reply.No refusal) quiet = refl
  quiet-then s o r quiet = quiet (bind_name s) r

-- A step watches the variable that it binds,
abbrev Watches : Step → Type 0
Watches s = (h : Hand) → snapshot_bound h s ≡ a_snapshot (named_by h (bind_name s))

-- or leaves all variables.
abbrev StaysBound : Hand → Step → Type 0
StaysBound h s = (r : Reply) → (hand_then h s (op_of h s) r).bound ≡ h.bound

module _ (h : Hand) where
  by-one : {A : Type 0} (s : Step) (w : Word) (x : Option A) (f : A → Op) → op_of h s ≡ called w x f → ((a : A) → Quiet h (f a)) → Watches s ⊎ StaysBound h s
  by-one s w x f is each = inr (λ r. ap (λ o. (hand_then h s o r).bound) is ∙ quiet-then h s (called w x f) r (quiet-one h w x f each))

  by-two : {A B : Type 0} (s : Step) (w : Word) (x : Option A) (y : Option B) (f : A → B → Op) → op_of h s ≡ called_by_two w x y f → ((a : A) (b : B) → Quiet h (f a b)) → Watches s ⊎ StaysBound h s
  by-two s w x y f is each = inr (λ r. ap (λ o. (hand_then h s o r).bound) is ∙ quiet-then h s (called_by_two w x y f) r (quiet-two h w x y f each))

  by-word : (s : Step) → Quiet h (op_of h s) → Watches s ⊎ StaysBound h s
  by-word s quiet = inr (λ r. quiet-then h s (op_of h s) r quiet)

  pub watches-or-stays : (s : Step) → Watches s ⊎ StaysBound h s
  watches-or-stays (step.GetDirectory bucket bind) = inl (λ g. refl)
  watches-or-stays (step.GetDirectoryHandle dir name create bind) = inl (λ g. refl)
  watches-or-stays (step.GetFileHandle dir name create bind) = inl (λ g. refl)
  watches-or-stays (step.Values dir bind) = inl (λ g. refl)
  watches-or-stays (step.Next from bind) = inl (λ g. refl)
  watches-or-stays (step.GetFile file bind) = inl (λ g. refl)
  watches-or-stays (step.CreateWritable file keep bind) = inl (λ g. refl)
  watches-or-stays (step.CreateSyncAccessHandle file read_only bind) = inl (λ g. refl)
  watches-or-stays (step.RemoveEntry dir name recursive) = by-one (step.RemoveEntry dir name recursive) word.RemoveEntry (a_directory (named_by h dir)) (λ at. op.RemoveEntry at name recursive) refl (λ at v r. refl)
  watches-or-stays (step.Resolve dir entry) = by-two (step.Resolve dir entry) word.Resolve (a_directory (named_by h dir)) (an_entry (named_by h entry)) (λ at to. op.Resolve at to) refl (λ at to v r. refl)
  watches-or-stays (step.IsSameEntry entry other) = by-two (step.IsSameEntry entry other) word.IsSameEntry (an_entry (named_by h entry)) (an_entry (named_by h other)) (λ a b. op.IsSameEntry a b) refl (λ a b v r. refl)
  watches-or-stays (step.Slice snapshot at len) = by-one (step.Slice snapshot at len) word.Slice (a_snapshot (named_by h snapshot)) (λ n. op.Slice n at len) refl (λ n v r. refl)
  watches-or-stays (step.Write stream bytes position) = by-one (step.Write stream bytes position) word.Write (a_stream (named_by h stream)) (λ n. op.Write n bytes position) refl (λ n v r. refl)
  watches-or-stays (step.Seek stream position) = by-one (step.Seek stream position) word.Seek (a_stream (named_by h stream)) (λ n. op.Seek n position) refl (λ n v r. refl)
  watches-or-stays (step.Truncate stream size) = by-one (step.Truncate stream size) word.Truncate (a_stream (named_by h stream)) (λ n. op.Truncate n size) refl (λ n v r. refl)
  watches-or-stays (step.Close stream) = by-one (step.Close stream) word.Close (a_stream (named_by h stream)) (λ n. op.Close n) refl (λ n v r. refl)
  watches-or-stays (step.Abort stream) = by-one (step.Abort stream) word.Abort (a_stream (named_by h stream)) (λ n. op.Abort n) refl (λ n v r. refl)
  watches-or-stays (step.SyncRead sync len at) = by-one (step.SyncRead sync len at) word.SyncRead (a_handle (named_by h sync)) (λ n. op.SyncRead n len at) refl (λ n v r. refl)
  watches-or-stays (step.SyncWrite sync bytes at) = by-one (step.SyncWrite sync bytes at) word.SyncWrite (a_handle (named_by h sync)) (λ n. op.SyncWrite n bytes at) refl (λ n v r. refl)
  watches-or-stays (step.SyncTruncate sync size) = by-one (step.SyncTruncate sync size) word.SyncTruncate (a_handle (named_by h sync)) (λ n. op.SyncTruncate n size) refl (λ n v r. refl)
  watches-or-stays (step.SyncGetSize sync) = by-one (step.SyncGetSize sync) word.SyncGetSize (a_handle (named_by h sync)) (λ n. op.SyncGetSize n) refl (λ n v r. refl)
  watches-or-stays (step.SyncFlush sync) = by-one (step.SyncFlush sync) word.SyncFlush (a_handle (named_by h sync)) (λ n. op.SyncFlush n) refl (λ n v r. refl)
  watches-or-stays (step.SyncClose sync) = by-one (step.SyncClose sync) word.SyncClose (a_handle (named_by h sync)) (λ n. op.SyncClose n) refl (λ n v r. refl)
  watches-or-stays (step.Persist bucket) = by-word (step.Persist bucket) (λ v r. refl)
  watches-or-stays (step.Persisted bucket) = by-word (step.Persisted bucket) (λ v r. refl)
  watches-or-stays step.Estimate = by-word step.Estimate (λ v r. refl)
  watches-or-stays (step.Moment ms) = by-word (step.Moment ms) (λ v r. refl)
  watches-or-stays (step.Post tag) = by-word (step.Post tag) (λ v r. refl)
  watches-or-stays (step.Await tag) = by-word (step.Await tag) (λ v r. refl)

-- A step whose variable names a snapshot watches it.
pub watches : (h : Hand) (s : Step) (n : ℕ) → snapshot_bound h s ≡ Some n → Watches s
watches h (step.GetDirectory bucket bind) n is = λ g. refl
watches h (step.GetDirectoryHandle dir name create bind) n is = λ g. refl
watches h (step.GetFileHandle dir name create bind) n is = λ g. refl
watches h (step.Values dir bind) n is = λ g. refl
watches h (step.Next from bind) n is = λ g. refl
watches h (step.GetFile file bind) n is = λ g. refl
watches h (step.CreateWritable file keep bind) n is = λ g. refl
watches h (step.CreateSyncAccessHandle file read_only bind) n is = λ g. refl
watches h s n is = absurd cc
