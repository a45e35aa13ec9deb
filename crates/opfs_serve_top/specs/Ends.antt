-- How a conversation over a disk ended, before the disk is given back to its host. This project's own.
use Rattle.std.specs.Prelude.{◌≡◌, ◌≢◌, ◌⊎◌, List, Result, Ok, Err, IsOk, IsErr}
use Rattle.std.specs.declared.alloc.AllocError.{AllocError}
use Rattle.opfs_codec.specs.declared.change.Format.TheVariants.{New}
use Rattle.opfs_desk.specs.Seen.{DeskSeen}
use Rattle.opfs_desk_runs.specs.declared.running.Completion.{Completion}
use Rattle.opfs_image.specs.Reading.{read_as}
use Rattle.opfs_image.specs.declared.refusal.ImageRefusal.{ImageRefusal}
use Rattle.opfs_image.specs.declared.refusal.ImageRefusal.TheVariants as image
use Rattle.opfs_journal.specs.Walking.{OnlyRead}
use Rattle.opfs_journal.specs.declared.refusal.DiskFault.{DiskFault}
use Rattle.opfs_outside.specs.Faults.{Rose}
use Rattle.opfs_outside.specs.declared.disk.Disk.{Ghosts as DiskWords}
use Rattle.opfs_port.specs.Said.{Said}
use Rattle.opfs_script.specs.Scripts.{Asked}
use Rattle.opfs_serve_runs.specs.Conversations.{IsServedOn}
use Rattle.opfs_serve_top.specs.declared.host.Ending.{Ending}
use Rattle.opfs_serve_top.specs.declared.host.Ending.TheVariants as ending
use Rattle.opfs_serving.specs.declared.progress.State.{State}

-- It was held, and its end went like this.
pub record HasHeld {D P : Type 0} (w : DiskWords D) (tells : Type 0) (said : P → List (Said (DeskSeen D))) (agents : List Asked) (begun now : P) (old new : D) (ended : State) (End : Result (Unit {0}) DiskFault → Type 0) : Type 0 where
  pub run : Completion D
  pub same : run.disk ≡ new
  pub on : IsServedOn w tells said agents begun now old run ended
  pub done : End run.done

-- It was not held, for this reason: nothing was heard or told, and the disk was only read.
pub record HasNotHeld {D P : Type 0} (w : DiskWords D) (begun now : P) (old new : D) (Why : Type 0) : Type 0 where
  pub only : OnlyRead w old new
  pub unsaid : now ≡ begun
  pub why : Why

abbrev pub EndedOn : {D P : Type 0} → DiskWords D → Type 0 → (P → List (Said (DeskSeen D))) → List Asked → P → P → D → D → Result Ending AllocError → Type 0
EndedOn w tells said agents begun now old new (Ok (ending.Held ended)) = HasHeld w tells said agents begun now old new ended (λ done. IsOk done)
EndedOn w tells said agents begun now old new (Ok (ending.Broken ended)) = HasHeld w tells said agents begun now old new ended (λ done. IsErr done)
EndedOn w tells said agents begun now old new (Ok (ending.Refused why)) = HasNotHeld w begun now old new (w.tells → read_as New New (w.content old) ≡ Err why)
EndedOn w tells said agents begun now old new (Ok ending.Failed) = HasNotHeld w begun now old new (Rose (w.faults old) (w.faults new))
EndedOn w tells said agents begun now old new (Err e) = HasNotHeld w begun now old new (Unit {0})

-- It was held, and its answers were told so: all of them, or as far as the output, or memory, went.
abbrev pub WasTold : State → Ending → Type 0
WasTold how (ending.Held ended) = ended ≡ how
WasTold how (ending.Broken ended) = ended ≡ how
WasTold how (ending.Refused why) = ⊥
WasTold how ending.Failed = ⊥

-- How one ended that was held.
abbrev pub IsHeldEnd : Result (Unit {0}) DiskFault → State → Ending → Type 0
IsHeldEnd done state (ending.Held ended) = IsOk done × (ended ≡ state)
IsHeldEnd done state (ending.Broken ended) = IsErr done × (ended ≡ state)
IsHeldEnd done state (ending.Refused why) = ⊥
IsHeldEnd done state ending.Failed = ⊥

-- How one ended that was not.
abbrev pub IsRefusedEnd : ImageRefusal → Result Ending AllocError → Type 0
IsRefusedEnd refusal (Ok (ending.Held ended)) = ⊥
IsRefusedEnd refusal (Ok (ending.Broken ended)) = ⊥
IsRefusedEnd refusal (Ok (ending.Refused why)) = (refusal ≡ why) × (refusal ≢ image.DiskFault) × (refusal ≢ image.NoMemory)
IsRefusedEnd refusal (Ok ending.Failed) = refusal ≡ image.DiskFault
IsRefusedEnd refusal (Err e) = refusal ≡ image.NoMemory

-- How it ended where the disk did not come back.
abbrev pub broken_end : Result Ending AllocError → Ending
broken_end (Ok (ending.Held ended)) = ending.Broken ended
broken_end (Ok (ending.Broken ended)) = ending.Broken ended
broken_end (Ok (ending.Refused why)) = ending.Failed
broken_end (Ok ending.Failed) = ending.Failed
broken_end (Err e) = ending.Failed

-- The disk was given back, and it ended as before that; or it was not.
abbrev pub IsGivenOr : Type 0 → Type 0 → Result Ending AllocError → Result Ending AllocError → Type 0
IsGivenOr Back Fault end result = ((result ≡ end) × Back) ⊎ (Fault × (result ≡ Ok (broken_end end)))
