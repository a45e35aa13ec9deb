-- How a run over a disk ended.
use Rattle.std.proofs.Common.{◌≡◌, ◌≢◌, [], inl, inr, refl, sym, subst, append-nil}
use Rattle.std.specs.Prelude.{List, Result, Ok, Err, IfOk}
use Rattle.std.specs.declared.alloc.AllocError.{AllocError}
use Rattle.opfs_codec.specs.declared.change.Format.TheVariants.{New}
use Rattle.opfs_desk_runs.specs.Runs.{IsRunOn}
use Rattle.opfs_desk_runs.specs.declared.running.Completion.{Completion}
use Rattle.opfs_hist.specs.declared.entry.Entry.{Entry}
use Rattle.opfs_image.specs.Reading.{read_as}
use Rattle.opfs_image.specs.declared.refusal.ImageRefusal.{ImageRefusal}
use Rattle.opfs_image.specs.declared.refusal.ImageRefusal.TheVariants as image
use Rattle.opfs_journal.specs.Walking.{OnlyRead}
use Rattle.opfs_outside.specs.Faults.{Rose}
use Rattle.opfs_outside.specs.Turns.{SinkTurn, TookNothing}
use Rattle.opfs_outside.specs.declared.disk.Disk.{Ghosts as DiskWords}
use Rattle.opfs_print.specs.Lines.{text_of}
use Rattle.opfs_script.specs.Scripts.{Asked}
use Rattle.opfs_telling.specs.Telling.{HasPut, HasPutFront}
use Rattle.opfs_telling.specs.declared.telling.State.{State}
use Rattle.opfs_telling.specs.declared.telling.State.TheVariants as state
use Rattle.opfs_commands.specs.Ran.{IsEndOf, IsNoRun, IsRefusalAnswer, IsRefusedEnd, RanOn}
use Rattle.opfs_commands.specs.declared.answers.ToolAnswer.{ToolAnswer}
use Rattle.opfs_commands.specs.declared.answers.ToolEnd.{ToolEnd}
use Rattle.opfs_commands.specs.declared.runs.RunEnd.{RunEnd}
use Rattle.opfs_commands.specs.declared.runs.RunEnd.TheVariants as run_end

-- However a history was told, a front of its lines was put out.
front-put : (k : SinkTurn) (h : List Entry) (told : State) → HasPut k h told → HasPutFront k h
front-put k h state.On put = ([], record { front = text_of h; whole = sym (append-nil (text_of h)); took = put })
front-put k h state.Failed put = put.0
front-put k h state.Short put = put

module _ {D : Type 0} (w : DiskWords D) (k : SinkTurn) (script : List Asked) (old : D) where
  -- the agents ran
  module _ (run : Completion D) (told : State) (new : D) (same : run.disk ≡ new) (on : IsRunOn w script old run) (put : HasPut k run.history told) where
    put-as : (s : State) → told ≡ s → HasPut k run.history s
    put-as s is = subst (λ (x : State). HasPut k run.history x) is put

    ended-by : (e : RunEnd) → IsEndOf run.whole told run.done (Ok e) → RanOn w k script old new (Ok e)
    ended-by run_end.Done is = record { run = run; same = same; on = on; whole = is.0; ended = is.2; put = put-as state.On is.1 }
    ended-by run_end.Failed is = record { run = run; same = same; on = on; whole = is.0; ended = is.2; put = put-as state.On is.1 }
    ended-by run_end.Cut is = record { run = run; same = same; on = on; whole = is.0; ended = tt; put = put-as state.Failed is.1 }
    ended-by (run_end.Before a) is = absurd is

    pub ran-on : (r : Result RunEnd AllocError) → IsEndOf run.whole told run.done r → RanOn w k script old new r
    ran-on (Ok e) is = ended-by e is
    ran-on (Err x) is = inr (record { run = run; same = same; on = on; put = front-put k run.history told put })

  -- they did not
  module _ (new : D) (only : OnlyRead w old new) (nothing : TookNothing k) (refusal : ImageRefusal)
      (refused : refusal ≢ image.DiskFault → refusal ≢ image.NoMemory → w.tells → read_as New New (w.content old) ≡ Err refusal) (cause : refusal ≡ image.DiskFault → Rose (w.faults old) (w.faults new)) where
    image-by : (a : ToolAnswer) → refusal ≢ image.DiskFault → IsRefusalAnswer refusal a → IsNoRun w old new a.end a.text
    image-by a other is =
        let told = is.refused other in
        subst (λ (e : ToolEnd). IsNoRun w old new e a.text) (sym told.0) (λ t. record { why = refusal; refused = refused other is.memory t; line = told.1 })

    host-by : (a : ToolAnswer) → refusal ≡ image.DiskFault → IsRefusalAnswer refusal a → IsNoRun w old new a.end a.text
    host-by a same is =
        let told = is.fault same in
        subst (λ (e : ToolEnd). IsNoRun w old new e a.text) (sym told.0) (cause same, told.1)

    fault-or : (r : ImageRefusal) (P : Type 0) → (r ≡ image.DiskFault → P) → (r ≢ image.DiskFault → P) → P
    fault-or image.Short P yes_ no_ = no_ (λ e. cc e)
    fault-or image.Magic P yes_ no_ = no_ (λ e. cc e)
    fault-or image.Geometry P yes_ no_ = no_ (λ e. cc e)
    fault-or image.NoArea P yes_ no_ = no_ (λ e. cc e)
    fault-or (image.BadRecord place) P yes_ no_ = no_ (λ e. cc e)
    fault-or image.Old P yes_ no_ = no_ (λ e. cc e)
    fault-or image.NotOld P yes_ no_ = no_ (λ e. cc e)
    fault-or (image.Overfull charge area) P yes_ no_ = no_ (λ e. cc e)
    fault-or image.DiskFault P yes_ no_ = yes_ refl
    fault-or image.NoMemory P yes_ no_ = no_ (λ e. cc e)

    before-by : (e : RunEnd) → IsRefusedEnd refusal e → RanOn w k script old new (Ok e)
    before-by run_end.Done is = absurd is
    before-by run_end.Failed is = absurd is
    before-by run_end.Cut is = absurd is
    before-by (run_end.Before a) is = (record { only = only; answer = fault-or refusal (IsNoRun w old new a.end a.text) (λ same. host-by a same is) (λ other. image-by a other is) }, nothing)

    pub not-ran : (r : Result RunEnd AllocError) → IfOk r (λ e. IsRefusedEnd refusal e) → RanOn w k script old new r
    not-ran (Ok e) is = before-by e is
    not-ran (Err x) is = inl (only, nothing)
