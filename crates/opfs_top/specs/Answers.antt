-- What is said of a command before its text is put out. This project's own.
use Rattle.std.specs.Prelude.{◌≡◌, ◌⊎◌, ◌++◌, [], List, Result, Ok, Err, IfOk}
use Rattle.std.specs.declared.alloc.AllocError.{AllocError}
use Rattle.opfs_base.specs.Texts.{Text}
use Rattle.opfs_outside.specs.Turns.{HostTurn, HostFailed, SinkFailed, SinkTurn, SourceFailed, SourceTurn, Took}
use Rattle.opfs_commands.specs.Kinds.{DoneKind, IsDumping, RefusedKind}
use Rattle.opfs_commands.specs.Ran.{IsRunRefused}
use Rattle.opfs_commands.specs.Telling.{IsLoaded, IsNoDump, IsOfImage}
use Rattle.opfs_commands.specs.declared.words.Action.{Action}
use Rattle.opfs_print.specs.declared.end.End.TheVariants as end
use Rattle.opfs_print.specs.Status.{status_text}
use Rattle.opfs_script.specs.Scripts.{Asked}
use Rattle.opfs_top.specs.Doing.{IsFrontOf, IsRefused, IsTooLong, IsUnmade, OfSource, TaskDone, TaskRefused}
use Rattle.opfs_top.specs.Headline.{IsHeadline, IsRefusedRun, IsRunStopped, OfScript}
use Rattle.opfs_top.specs.declared.answer.Answer.{Answer}
use Rattle.opfs_top.specs.declared.answer.Task.{Task}
use Rattle.opfs_top.specs.declared.status.Status.{Status}
use Rattle.opfs_top.specs.declared.status.Status.TheVariants as status

-- What bytes that were read whole give.
abbrev pub Outcome : Task → Text → Status → Text → Type 0
Outcome t bytes status.Done text = TaskDone t bytes text
Outcome t bytes status.Script text = TaskRefused t bytes text
Outcome t bytes ended text = ⊥

-- What is to be put out at each end behind a front that was put out. Where the sink has failed, nothing more is.
abbrev pub Behind : SinkTurn → Text → (Status → Text → Type 0) → Status → Text → Type 0
Behind k front End status.Sink text = SinkFailed k × (text ≡ []) × ((ended : Status) × (rest : Text) × End ended (front ++ rest))
Behind k front End ended text = End ended (front ++ text)

-- How a command ended: what it has put out, and what it is to put out behind it.
pub record IsTold (k : SinkTurn) (Begun : Text → Type 0) (End : Status → Text → Type 0) (r : Result Answer AllocError) : Type 0 where
  pub front : Text
  pub took : Took k front
  pub begun : IsFrontOf Begun front
  pub ended : IfOk r (λ answer. Behind k front End answer.status answer.text)

-- What a command on the image at a path puts out at each end.
abbrev pub ImageEnded : HostTurn → Text → Action → Status → Text → Type 0
ImageEnded h path action status.Done text = h.tells → DoneKind action (h.image path) (h.image_after path) text
ImageEnded h path action status.Image text = h.tells → RefusedKind action (h.image path) text
ImageEnded h path action status.Host text = HostFailed h × ((front : Text) × IsFrontOf (λ t. IsDumping action × (h.tells → DoneKind action (h.image path) (h.image_after path) t)) front × (text ≡ front ++ status_text end.Host))
ImageEnded h path action ended text = ⊥

-- What making the image at the one path from the text at the other puts out at each end.
abbrev pub LoadEnded : HostTurn → Text → Text → Status → Text → Type 0
LoadEnded h image from status.Done text = h.tells → IsLoaded (h.image from) (h.image_after image) text
LoadEnded h image from status.Image text = h.tells → IsOfImage IsNoDump (h.image from) text
LoadEnded h image from status.Host text = HostFailed h × (text ≡ status_text end.Host)
LoadEnded h image from ended text = ⊥

-- What a run over the image at a path puts out at each end.
abbrev pub RunEnded : HostTurn → Text → List Asked → Status → Text → Type 0
RunEnded h path script status.Done text = IsHeadline h path script text
RunEnded h path script status.Image text = IsRunRefused h path text
RunEnded h path script status.Host text = IsRunStopped h path script text
RunEnded h path script ended text = ⊥

-- The same, where bytes that were read whole are the script.
abbrev pub BytesRan : HostTurn → Text → Text → Status → Text → Type 0
BytesRan h path bytes status.Done text = OfScript (IsHeadline h path) bytes text
BytesRan h path bytes status.Script text = IsRefused bytes text
BytesRan h path bytes status.Image text = OfScript (IsRefusedRun h path) bytes text
BytesRan h path bytes status.Host text = OfScript (IsRunStopped h path) bytes text
BytesRan h path bytes ended text = ⊥

-- The same, where a source gives the script.
abbrev pub SourceRan : SourceTurn → HostTurn → Text → Status → Text → Type 0
SourceRan s h path status.Done text = OfSource s (OfScript (IsHeadline h path)) text
SourceRan s h path status.Script text = OfSource s IsRefused text ⊎ IsTooLong s text
SourceRan s h path status.Image text = OfSource s (OfScript (IsRefusedRun h path)) text
SourceRan s h path status.Host text = OfSource s (OfScript (IsRunStopped h path)) text
SourceRan s h path status.Source text = SourceFailed s × (text ≡ status_text end.Source)
SourceRan s h path ended text = ⊥

-- The answer says that no image was made, or there is none.
abbrev pub IsUnmadeBy : Result Answer AllocError → Type 0
IsUnmadeBy (Ok answer) = IsUnmade answer.status
IsUnmadeBy (Err e) = Unit {0}
