-- No run asks to wait.
use Rattle.std.proofs.Common.{◌≡◌, ℕ, false, List, [], ◌∷◌, Option, Some, None, refl, sym, ap, ◌∙◌}
use Rattle.opfs_hist.specs.declared.op.Op.{Op}
use Rattle.opfs_hist.specs.declared.op.Op.TheVariants as op
use Rattle.opfs_hist.specs.declared.op.Word.{Word}
use Rattle.opfs_script_run.specs.declared.runs.hand.Hand.{Hand}
use Rattle.opfs_script_run.specs.declared.runs.hand.Named.{Named}
use Rattle.opfs_script_run.specs.declared.runs.hand.Named.TheVariants as named
use Rattle.opfs_script_run.specs.declared.runs.hand.Open.{Open}
use Rattle.opfs_script_run.specs.declared.runs.hand.Open.TheVariants as opened
use Rattle.opfs_script_run.specs.Runs.Running.{a_directory, a_file, a_handle, a_snapshot, a_stream, an_entry, called, called_by_two, ending, is_wait, named_by, next_op, op_of}
use Rattle.opfs_script.specs.declared.step.Step.{Step}
use Rattle.opfs_script.specs.declared.step.Step.TheVariants as step
use Rattle.opfs_transcripts.specs.Told.Goings.{Going, stepping, closing, gone, asked}
use Rattle.opfs_transcripts.proofs.told.Goes.{this_call, op-of}

abbrev Moves : Op → Type 0
Moves o = is_wait o ≡ false

by-one : {A : Type 0} (w : Word) (x : Option A) (f : A → Op) → ((a : A) → Moves (f a)) → Moves (called w x f)
by-one w None f all = refl
by-one w (Some a) f all = all a

by-two : {A B : Type 0} (w : Word) (x : Option A) (y : Option B) (f : A → B → Op) → ((a : A) (b : B) → Moves (f a b)) → Moves (called_by_two w x y f)
by-two w (Some a) (Some b) f all = all a b
by-two w (Some a) None f all = refl
by-two w None y f all = refl

by-next : (x : Option Named) → Moves (next_op x)
by-next (Some (named.Iterator n dir)) = refl
by-next (Some x) = refl
by-next None = refl

step-moves : (h : Hand) (s : Step) → Moves (op_of h s)
step-moves h (step.GetDirectoryHandle dir name create bind) = by-one _ (a_directory (named_by h dir)) _ (λ at. refl)
step-moves h (step.GetFileHandle dir name create bind) = by-one _ (a_directory (named_by h dir)) _ (λ at. refl)
step-moves h (step.RemoveEntry dir name recursive) = by-one _ (a_directory (named_by h dir)) _ (λ at. refl)
step-moves h (step.Values dir bind) = by-one _ (a_directory (named_by h dir)) _ (λ at. refl)
step-moves h (step.Next from bind) = by-next (named_by h from)
step-moves h (step.Resolve dir entry) = by-two _ (a_directory (named_by h dir)) (an_entry (named_by h entry)) _ (λ at to. refl)
step-moves h (step.IsSameEntry entry other) = by-two _ (an_entry (named_by h entry)) (an_entry (named_by h other)) _ (λ a b. refl)
step-moves h (step.GetFile file bind) = by-one _ (a_file (named_by h file)) _ (λ at. refl)
step-moves h (step.Slice snapshot at len) = by-one _ (a_snapshot (named_by h snapshot)) _ (λ n. refl)
step-moves h (step.CreateWritable file keep bind) = by-one _ (a_file (named_by h file)) _ (λ at. refl)
step-moves h (step.Write stream bytes position) = by-one _ (a_stream (named_by h stream)) _ (λ n. refl)
step-moves h (step.Seek stream position) = by-one _ (a_stream (named_by h stream)) _ (λ n. refl)
step-moves h (step.Truncate stream size) = by-one _ (a_stream (named_by h stream)) _ (λ n. refl)
step-moves h (step.Close stream) = by-one _ (a_stream (named_by h stream)) _ (λ n. refl)
step-moves h (step.Abort stream) = by-one _ (a_stream (named_by h stream)) _ (λ n. refl)
step-moves h (step.CreateSyncAccessHandle file read_only bind) = by-one _ (a_file (named_by h file)) _ (λ at. refl)
step-moves h (step.SyncRead sync len at) = by-one _ (a_handle (named_by h sync)) _ (λ n. refl)
step-moves h (step.SyncWrite sync bytes at) = by-one _ (a_handle (named_by h sync)) _ (λ n. refl)
step-moves h (step.SyncTruncate sync size) = by-one _ (a_handle (named_by h sync)) _ (λ n. refl)
step-moves h (step.SyncGetSize sync) = by-one _ (a_handle (named_by h sync)) _ (λ n. refl)
step-moves h (step.SyncFlush sync) = by-one _ (a_handle (named_by h sync)) _ (λ n. refl)
step-moves h (step.SyncClose sync) = by-one _ (a_handle (named_by h sync)) _ (λ n. refl)
step-moves h s = refl

ending-moves : (o : Open) → Moves (ending o)
ending-moves (opened.Stream n) = refl
ending-moves (opened.Handle n) = refl

none-call : (n : ℕ) (o : Op) → None ≡ this_call n o → ⊥
none-call n o h = cc

end-moves : (m : ℕ) (rows : List Open) (n : ℕ) (o : Op) → asked (closing m rows) ≡ this_call n o → Moves o
end-moves m [] n o h = ap is_wait (sym (op-of m n op.End o h))
end-moves m (r ∷ rows) n o h = ap is_wait (sym (op-of m n (ending r) o h)) ∙ ending-moves r

pub asked-moves : (g : Going) (n : ℕ) (o : Op) → asked g ≡ this_call n o → Moves o
asked-moves (stepping h m []) n o is = end-moves m h.opened n o is
asked-moves (stepping h m (s ∷ steps)) n o is = ap is_wait (sym (op-of m n (op_of h s) o is)) ∙ step-moves h s
asked-moves (closing m rows) n o is = end-moves m rows n o is
asked-moves gone n o is = absurd (none-call n o is)
