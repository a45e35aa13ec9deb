-- How a conversation over a disk ended.
use Rattle.std.proofs.Common.{◌≡◌, ◌≢◌, refl, sym, ap, ◌∙◌, subst, inl, inr}
use Rattle.std.specs.Prelude.{List, Result, Ok, Err, IfOk}
use Rattle.std.specs.declared.alloc.AllocError.{AllocError}
use Rattle.opfs_base.specs.Texts.{Text}
use Rattle.opfs_codec.specs.declared.change.Format.TheVariants.{New}
use Rattle.opfs_desk.specs.Seen.{DeskSeen}
use Rattle.opfs_image.specs.Reading.{read_as}
use Rattle.opfs_image.specs.declared.refusal.ImageRefusal.{ImageRefusal}
use Rattle.opfs_image.specs.declared.refusal.ImageRefusal.TheVariants as image
use Rattle.opfs_journal.specs.Walking.{OnlyRead}
use Rattle.opfs_journal.specs.declared.refusal.DiskFault.{DiskFault}
use Rattle.opfs_outside.specs.Faults.{Rose}
use Rattle.opfs_outside.specs.declared.disk.Disk.{Ghosts as DiskWords}
use Rattle.opfs_port.specs.Said.{Said}
use Rattle.opfs_script.specs.Scripts.{Asked}
use Rattle.opfs_desk_runs.specs.declared.running.Completion.{Completion}
use Rattle.opfs_serve_runs.specs.Conversations.{IsServedOn}
use Rattle.opfs_serve_top.specs.Ends.{EndedOn, IsGivenOr, IsHeldEnd, IsRefusedEnd, WasTold, broken_end}
use Rattle.opfs_serve_top.specs.Headline.{IsReplyTo, status_of}
use Rattle.opfs_serve_top.specs.declared.host.Ending.{Ending}
use Rattle.opfs_serve_top.specs.declared.host.Ending.TheVariants as ending
use Rattle.opfs_serving.specs.declared.progress.State.{State}
use Rattle.opfs_serving.specs.declared.progress.State.TheVariants as state
use Rattle.opfs_top.specs.declared.status.Status.{Status}
use Rattle.opfs_top.specs.declared.status.Status.TheVariants as status

module _ {D P : Type 0} (w : DiskWords D) (tells : Type 0) (said : P → List (Said (DeskSeen D))) (agents : List Asked) (begun now : P) (old new : D) where
  pub held-on : (run : Completion D) (state : State) (e : Ending) → new ≡ run.disk → IsServedOn w tells said agents begun now old run state → IsHeldEnd run.done state e → EndedOn w tells said agents begun now old new (Ok e)
  held-on run state (ending.Held ended) same on is = record { run = run; same = sym same; on = subst (λ (s : State). IsServedOn w tells said agents begun now old run s) (sym is.1) on; done = is.0 }
  held-on run state (ending.Broken ended) same on is = record { run = run; same = sym same; on = subst (λ (s : State). IsServedOn w tells said agents begun now old run s) (sym is.1) on; done = is.0 }
  held-on run state (ending.Refused why) same on is = absurd is
  held-on run state ending.Failed same on is = absurd is

  pub not-held-on : (refusal : ImageRefusal) (r : Result Ending AllocError) → OnlyRead w old new → now ≡ begun
      → (refusal ≢ image.DiskFault → refusal ≢ image.NoMemory → w.tells → read_as New New (w.content old) ≡ Err refusal) → (refusal ≡ image.DiskFault → Rose (w.faults old) (w.faults new))
      → IsRefusedEnd refusal r → EndedOn w tells said agents begun now old new r
  not-held-on refusal (Ok (ending.Held ended)) only unsaid refused cause is = absurd is
  not-held-on refusal (Ok (ending.Broken ended)) only unsaid refused cause is = absurd is
  not-held-on refusal (Ok (ending.Refused why)) only unsaid refused cause is = record { only = only; unsaid = unsaid; why = λ t. refused is.1 is.2 t ∙ ap (λ (x : ImageRefusal). Err x) is.0 }
  not-held-on refusal (Ok ending.Failed) only unsaid refused cause is = record { only = only; unsaid = unsaid; why = cause is }
  not-held-on refusal (Err e) only unsaid refused cause is = record { only = only; unsaid = unsaid; why = tt }

-- ---- how the answers of one that was held were told

module _ (how : State) where
  pub held-went : (done : Result (Unit {0}) DiskFault) (s : State) (e : Ending) → IsHeldEnd done s e → WasTold how e → s ≡ how
  held-went done s (ending.Held ended) is went = sym is.1 ∙ went
  held-went done s (ending.Broken ended) is went = sym is.1 ∙ went
  held-went done s (ending.Refused why) is went = absurd is
  held-went done s ending.Failed is went = absurd is

  pub refused-went : (refusal : ImageRefusal) (r : Result Ending AllocError) (Q : Type 0) → IsRefusedEnd refusal r → IfOk r (λ e. WasTold how e → Q)
  refused-went refusal (Ok (ending.Held ended)) Q is = absurd is
  refused-went refusal (Ok (ending.Broken ended)) Q is = absurd is
  refused-went refusal (Ok (ending.Refused why)) Q is = λ went. absurd went
  refused-went refusal (Ok ending.Failed) Q is = λ went. absurd went
  refused-went refusal (Err e) Q is = tt

  broken-went : (r : Result Ending AllocError) (Q : Type 0) → IfOk r (λ e. WasTold how e → Q) → WasTold how (broken_end r) → Q
  broken-went (Ok (ending.Held ended)) Q all went = all went
  broken-went (Ok (ending.Broken ended)) Q all went = all went
  broken-went (Ok (ending.Refused why)) Q all went = absurd went
  broken-went (Ok ending.Failed) Q all went = absurd went
  broken-went (Err e) Q all went = absurd went

  pub given-went : (Back Fault : Type 0) (r s : Result Ending AllocError) (Q : Type 0) → IsGivenOr Back Fault r s → IfOk r (λ e. WasTold how e → Q) → IfOk s (λ e. WasTold how e → Q)
  given-went Back Fault r s Q (inl given) all = subst (λ (x : Result Ending AllocError). IfOk x (λ e. WasTold how e → Q)) (sym given.0) all
  given-went Back Fault r s Q (inr fault) all = subst (λ (x : Result Ending AllocError). IfOk x (λ e. WasTold how e → Q)) (sym fault.1) (broken-went r Q all)

status-on : (s : State) → status_of s ≡ status.Done → s ≡ state.On
status-on state.On is = refl
status-on state.Failed is = absurd cc
status-on state.Short is = absurd cc

status-failed : (s : State) → status_of s ≡ status.Sink → s ≡ state.Failed
status-failed state.On is = absurd cc
status-failed state.Failed is = refl
status-failed state.Short is = absurd cc

other-done : (s : Status) → s ≡ status.Host → s ≡ status.Done → ⊥
other-done s is done = cc

image-done : (s : Status) → s ≡ status.Image → s ≡ status.Done → ⊥
image-done s is done = cc

other-sink : (s : Status) → s ≡ status.Host → s ≡ status.Sink → ⊥
other-sink s is sink = cc

image-sink : (s : Status) → s ≡ status.Image → s ≡ status.Sink → ⊥
image-sink s is sink = cc

pub done-went : (e : Ending) (by : Status) (line : Text) → IsReplyTo e by line → by ≡ status.Done → WasTold state.On e
done-went (ending.Held ended) by line is done = status-on ended (sym is.0 ∙ done)
done-went (ending.Broken ended) by line is done = absurd (other-done by is.0 done)
done-went (ending.Refused why) by line is done = absurd (image-done by is.0 done)
done-went ending.Failed by line is done = absurd (other-done by is.0 done)

pub sink-went : (e : Ending) (by : Status) (line : Text) → IsReplyTo e by line → by ≡ status.Sink → WasTold state.Failed e
sink-went (ending.Held ended) by line is sink = status-failed ended (sym is.0 ∙ sink)
sink-went (ending.Broken ended) by line is sink = absurd (other-sink by is.0 sink)
sink-went (ending.Refused why) by line is sink = absurd (image-sink by is.0 sink)
sink-went ending.Failed by line is sink = absurd (other-sink by is.0 sink)
