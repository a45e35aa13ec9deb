-- What a step asks where it names nothing of one kind is what it asks among the other kinds.
use Rattle.std.proofs.Common.{◌≡◌, ℕ, Bool, Option, Result, Ok, Err, IfOk, refl, ◌∙◌}
use Rattle.opfs_base.specs.Texts.{Text}
use Rattle.opfs_hist.specs.declared.op.Op.{Op}
use Rattle.opfs_script.specs.declared.step.Step.{Step}
use Rattle.opfs_script.specs.declared.step.Step.TheVariants as step
use Rattle.opfs_script_run.specs.Runs.Running.{op_of}
use Rattle.opfs_script_run.specs.Runs.Steps.{plain_op, handle_op, row_op}
use Rattle.opfs_script_run.specs.declared.runs.hand.Hand.{Hand}

-- The same call under an answer.
pub same_op : {E : Type 0} (r : Result Op E) (a b : Op) → a ≡ b → IfOk r (λ op. op ≡ a) → IfOk r (λ op. op ≡ b)
same_op (Ok op) a b e h = h ∙ e
same_op (Err x) a b e h = tt

pub handle_op-plain : (h : Hand) (s : Step)
    → ((x : Text) (n : ℕ) (at : Option ℕ) → s ≡ step.SyncRead x n at → ⊥)
    → ((x bytes : Text) (at : Option ℕ) → s ≡ step.SyncWrite x bytes at → ⊥)
    → ((x : Text) (n : ℕ) → s ≡ step.SyncTruncate x n → ⊥)
    → ((x : Text) → s ≡ step.SyncGetSize x → ⊥)
    → ((x : Text) → s ≡ step.SyncFlush x → ⊥)
    → ((x : Text) → s ≡ step.SyncClose x → ⊥)
    → plain_op s ≡ handle_op h s
handle_op-plain h (step.SyncRead x n at) no1 no2 no3 no4 no5 no6 = absurd (no1 x n at refl)
handle_op-plain h (step.SyncWrite x bytes at) no1 no2 no3 no4 no5 no6 = absurd (no2 x bytes at refl)
handle_op-plain h (step.SyncTruncate x n) no1 no2 no3 no4 no5 no6 = absurd (no3 x n refl)
handle_op-plain h (step.SyncGetSize x) no1 no2 no3 no4 no5 no6 = absurd (no4 x refl)
handle_op-plain h (step.SyncFlush x) no1 no2 no3 no4 no5 no6 = absurd (no5 x refl)
handle_op-plain h (step.SyncClose x) no1 no2 no3 no4 no5 no6 = absurd (no6 x refl)
handle_op-plain h s no1 no2 no3 no4 no5 no6 = refl

pub row_op-handle : (h : Hand) (s : Step)
    → ((x : Text) (at len : ℕ) → s ≡ step.Slice x at len → ⊥)
    → ((x bytes : Text) (at : Option ℕ) → s ≡ step.Write x bytes at → ⊥)
    → ((x : Text) (n : ℕ) → s ≡ step.Seek x n → ⊥)
    → ((x : Text) (n : ℕ) → s ≡ step.Truncate x n → ⊥)
    → ((x : Text) → s ≡ step.Close x → ⊥)
    → ((x : Text) → s ≡ step.Abort x → ⊥)
    → handle_op h s ≡ row_op h s
row_op-handle h (step.Slice x at len) no1 no2 no3 no4 no5 no6 = absurd (no1 x at len refl)
row_op-handle h (step.Write x bytes at) no1 no2 no3 no4 no5 no6 = absurd (no2 x bytes at refl)
row_op-handle h (step.Seek x n) no1 no2 no3 no4 no5 no6 = absurd (no3 x n refl)
row_op-handle h (step.Truncate x n) no1 no2 no3 no4 no5 no6 = absurd (no4 x n refl)
row_op-handle h (step.Close x) no1 no2 no3 no4 no5 no6 = absurd (no5 x refl)
row_op-handle h (step.Abort x) no1 no2 no3 no4 no5 no6 = absurd (no6 x refl)
row_op-handle h s no1 no2 no3 no4 no5 no6 = refl

pub op_of-row : (h : Hand) (s : Step)
    → ((dir name : Text) (create : Bool) (bind : Text) → s ≡ step.GetDirectoryHandle dir name create bind → ⊥)
    → ((dir name : Text) (create : Bool) (bind : Text) → s ≡ step.GetFileHandle dir name create bind → ⊥)
    → ((dir name : Text) (recursive : Bool) → s ≡ step.RemoveEntry dir name recursive → ⊥)
    → ((dir bind : Text) → s ≡ step.Values dir bind → ⊥)
    → ((from bind : Text) → s ≡ step.Next from bind → ⊥)
    → ((dir entry : Text) → s ≡ step.Resolve dir entry → ⊥)
    → ((entry other : Text) → s ≡ step.IsSameEntry entry other → ⊥)
    → ((file bind : Text) → s ≡ step.GetFile file bind → ⊥)
    → ((file : Text) (keep : Bool) (bind : Text) → s ≡ step.CreateWritable file keep bind → ⊥)
    → ((file : Text) (read_only : Bool) (bind : Text) → s ≡ step.CreateSyncAccessHandle file read_only bind → ⊥)
    → row_op h s ≡ op_of h s
op_of-row h (step.GetDirectoryHandle a b c d) no1 no2 no3 no4 no5 no6 no7 no8 no9 no10 = absurd (no1 a b c d refl)
op_of-row h (step.GetFileHandle a b c d) no1 no2 no3 no4 no5 no6 no7 no8 no9 no10 = absurd (no2 a b c d refl)
op_of-row h (step.RemoveEntry a b c) no1 no2 no3 no4 no5 no6 no7 no8 no9 no10 = absurd (no3 a b c refl)
op_of-row h (step.Values a b) no1 no2 no3 no4 no5 no6 no7 no8 no9 no10 = absurd (no4 a b refl)
op_of-row h (step.Next a b) no1 no2 no3 no4 no5 no6 no7 no8 no9 no10 = absurd (no5 a b refl)
op_of-row h (step.Resolve a b) no1 no2 no3 no4 no5 no6 no7 no8 no9 no10 = absurd (no6 a b refl)
op_of-row h (step.IsSameEntry a b) no1 no2 no3 no4 no5 no6 no7 no8 no9 no10 = absurd (no7 a b refl)
op_of-row h (step.GetFile a b) no1 no2 no3 no4 no5 no6 no7 no8 no9 no10 = absurd (no8 a b refl)
op_of-row h (step.CreateWritable a b c) no1 no2 no3 no4 no5 no6 no7 no8 no9 no10 = absurd (no9 a b c refl)
op_of-row h (step.CreateSyncAccessHandle a b c) no1 no2 no3 no4 no5 no6 no7 no8 no9 no10 = absurd (no10 a b c refl)
op_of-row h s no1 no2 no3 no4 no5 no6 no7 no8 no9 no10 = refl
