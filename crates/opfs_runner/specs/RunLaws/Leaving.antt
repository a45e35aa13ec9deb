-- Which snapshot a step's variable no longer names, and what the rows are without its bytes. This project's own.
use Rattle.std.specs.Prelude.{ℕ, ◌-◌, ◌==◌, cond, List, Option, Some, None}
use Rattle.std.specs.List.{slice_set}
use Rattle.opfs_hist.specs.declared.reply.Reply.{Reply}
use Rattle.opfs_script_run.specs.declared.runs.hand.Hand.{Hand}
use Rattle.opfs_script_run.specs.Runs.Running.{named_by, a_snapshot, op_of, hand_then}
use Rattle.opfs_script.specs.declared.step.Step.{Step}
use Rattle.opfs_script.specs.declared.step.Step.TheVariants as step
use Rattle.opfs_runner.specs.RunLaws.Kinds.{RowKind, gone, kinds_after}

-- The row of the snapshot that is named by the variable which a step binds.
abbrev pub snapshot_bound : Hand → Step → Option ℕ
snapshot_bound h (step.GetDirectory bucket bind) = a_snapshot (named_by h bind)
snapshot_bound h (step.GetDirectoryHandle dir name create bind) = a_snapshot (named_by h bind)
snapshot_bound h (step.GetFileHandle dir name create bind) = a_snapshot (named_by h bind)
snapshot_bound h (step.Values dir bind) = a_snapshot (named_by h bind)
snapshot_bound h (step.Next from bind) = a_snapshot (named_by h bind)
snapshot_bound h (step.GetFile file bind) = a_snapshot (named_by h bind)
snapshot_bound h (step.CreateWritable file keep bind) = a_snapshot (named_by h bind)
snapshot_bound h (step.CreateSyncAccessHandle file read_only bind) = a_snapshot (named_by h bind)
snapshot_bound h s = None

-- The row that was named before, and is not now.
abbrev pub row_left : Option ℕ → Option ℕ → Option ℕ
row_left None now = None
row_left (Some n) None = Some n
row_left (Some n) (Some m) = cond (n == m) None (Some n)

-- The rows with the one that is left, if any, gone.
abbrev pub kinds_without : List RowKind → Option ℕ → List RowKind
kinds_without kinds None = kinds
kinds_without kinds (Some n) = slice_set kinds (n - 1) gone

-- The rows after a whole step: those after its call, without the snapshot that its variable no longer names.
abbrev pub kinds_stepped : Hand → List RowKind → Step → Reply → List RowKind
kinds_stepped h kinds s answered =
    kinds_without (kinds_after kinds (op_of h s) answered)
    (row_left (snapshot_bound h s) (snapshot_bound (hand_then h s (op_of h s) answered) s))
