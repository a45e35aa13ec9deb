-- What each command puts out and what it leaves of the host. This project's own.
--
-- A source, a sink and a host stand here as they are before the call and after it (`SourceTurn`, `SinkTurn`, `HostTurn`).
use Rattle.std.specs.Prelude.{◌≡◌, ◌≢◌, ◌⊎◌, ◌++◌, ℕ, ◌+◌, ◌==◌, true, false, List, [], ◌∷◌, codes, drop, length, Option, Some, None, Ok, Err}
use Rattle.opfs_base.specs.Texts.{Text}
use Rattle.opfs_commands.specs.Commands.{Command, trial, running, judgement, generating, on_image, loading, Asks, AsksNothing}
use Rattle.opfs_commands.specs.Kinds.{DoneKind, RefusedKind, MadeKind, IsDumping, IsMaking, IsReading, IsMigration, LeavesMade}
use Rattle.opfs_commands.specs.Ran.{IsNotRun, IsRunText}
use Rattle.opfs_commands.specs.Telling.{IsLoaded, IsNoDump, IsOfImage, StandsForText}
use Rattle.opfs_gen.specs.Summing.{gen_text}
use Rattle.opfs_hist.specs.declared.entry.Entry.{Entry}
use Rattle.opfs_judge.specs.declared.verdict.Verdict.{Verdict}
use Rattle.opfs_judge.specs.declared.verdict.Verdict.TheVariants as verdict
use Rattle.opfs_judge.specs.Verdicts.{IsJudged}
use Rattle.opfs_outside.specs.Turns.{HostTurn, SinkTurn, SourceTurn, HostFailed, SourceFailed, ReadWhole, ReadTooFar, Took}
use Rattle.opfs_print.specs.declared.end.BadScript.{BadScript}
use Rattle.opfs_print.specs.declared.end.BadScript.TheVariants as bad
use Rattle.opfs_print.specs.declared.end.End.TheVariants as end
use Rattle.opfs_print.specs.Lines.{text_of}
use Rattle.opfs_print.specs.Status.{status_text}
use Rattle.opfs_script.specs.declared.refusal.ScriptRefusal.{ScriptRefusal}
use Rattle.opfs_script.specs.declared.refusal.ScriptRefusal.TheVariants as refused
use Rattle.opfs_script.specs.Reading.{reads}
use Rattle.opfs_script.specs.Scripts.{Asked}
use Rattle.opfs_judge.specs.Trial.Trials.{IsTrial}
use Rattle.opfs_top.specs.Headline.{HasRun, IsHeadline, IsRefusedRun, IsRunStopped, OfScript}
use Rattle.opfs_top.specs.declared.answer.Task.{Task}
use Rattle.opfs_top.specs.declared.answer.Task.TheVariants as task
use Rattle.opfs_top.specs.declared.status.Status.{Status}
use Rattle.opfs_top.specs.declared.status.Status.TheVariants as status

-- The most bytes that a script may have, with a transcript behind it.
abbrev pub most_bytes : ℕ
most_bytes = 16777216

-- ---- what is put out

-- The text is the transcript of one history of a trial of the script.
pub record IsTrialText (script : List Asked) (text : Text) : Type 0 where
  pub history : List Entry
  pub trial : IsTrial script history
  pub lines : text ≡ text_of history

-- Bytes read as a script, and the text is the transcript of one history of a trial of it.
pub record IsTranscript (bytes text : Text) : Type 0 where
  pub script : List Asked
  pub read : reads bytes ≡ Ok script
  pub ran : IsTrialText script text

-- Why a script is refused, as the status line says it.
abbrev pub told_as : ScriptRefusal → Option BadScript
told_as refused.NotJson = Some bad.NotJson
told_as (refused.BadShape agent step) = Some (bad.BadShape agent step)
told_as (refused.UnknownStep agent step) = Some (bad.UnknownStep agent step)
told_as (refused.BadOrigin agent) = Some (bad.BadOrigin agent)
told_as refused.TooMany = Some bad.TooMany
told_as refused.NoMemory = None

-- The text is the line that says why a script is refused.
pub record IsRefusal (why : ScriptRefusal) (text : Text) : Type 0 where
  pub told : BadScript
  pub same : told_as why ≡ Some told
  pub line : text ≡ status_text (end.Script told)

-- Bytes are refused as a script, and the text is the line that says why.
pub record IsRefused (bytes text : Text) : Type 0 where
  pub why : ScriptRefusal
  pub refused : reads bytes ≡ Err why
  pub line : IsRefusal why text

-- What stands before the first 0; all, where there is none.
abbrev pub script_part : Text → Text
script_part [] = []
script_part (c ∷ cs) = elim (c == 0) [ true ↦ [] | false ↦ c ∷ script_part cs ]

-- What stands behind the first 0; nothing, where there is none.
abbrev pub transcript_part : Text → Text
transcript_part bytes = drop (length (script_part bytes) + 1) bytes

abbrev pub verdict_line : Verdict → Text
verdict_line verdict.Yes = codes "yes\n"
verdict_line verdict.No = codes "no\n"
verdict_line verdict.Unsettled = codes "unsettled\n"

-- The text is the line of the verdict on a script's transcript.
pub record IsVerdictText (script : List Asked) (transcript text : Text) : Type 0 where
  pub verdict : Verdict
  pub judged : IsJudged script transcript verdict
  pub line : text ≡ verdict_line verdict

-- What stands before the first 0 reads as a script, and the text is the line of the verdict on what stands behind it.
pub record IsJudgement (bytes text : Text) : Type 0 where
  pub script : List Asked
  pub read : reads (script_part bytes) ≡ Ok script
  pub judged : IsVerdictText script (transcript_part bytes) text

-- What stands before the first 0 is refused as a script, and the text is the line that says why.
abbrev pub IsRefusedBefore : Text → Text → Type 0
IsRefusedBefore bytes text = IsRefused (script_part bytes) text

-- What bytes give that were read for one of the two, and how they are refused.
abbrev pub TaskDone : Task → Text → Text → Type 0
TaskDone task.Try bytes text = IsTranscript bytes text
TaskDone task.Judge bytes text = IsJudgement bytes text

abbrev pub TaskRefused : Task → Text → Text → Type 0
TaskRefused task.Try bytes text = IsRefused bytes text
TaskRefused task.Judge bytes text = IsRefusedBefore bytes text

-- The source was read to its end, and its bytes give this text.
pub record OfSource (s : SourceTurn) (Kind : Text → Text → Type 0) (text : Text) : Type 0 where
  pub bytes : Text
  pub whole : ReadWhole s most_bytes bytes
  pub kind : Kind bytes text

-- More bytes were read than a script may have, and the text is the line that says so.
pub record IsTooLong (s : SourceTurn) (text : Text) : Type 0 where
  pub far : ReadTooFar s most_bytes
  pub line : text ≡ status_text (end.Script bad.TooMany)

-- What a command puts out that was done: a trial its transcript; a run over an image the same, with all that the headline says;
-- a judgement the line of its verdict; a large run its summary, which is a function of its numbers; a command on an image what is
-- told of the image before, or of the one that it made; a load the line of the image that it made.
abbrev pub Did : Command → SourceTurn → HostTurn → Text → Type 0
Did trial s h text = OfSource s IsTranscript text
Did (running path) s h text = OfSource s (OfScript (IsHeadline h path)) text
Did judgement s h text = OfSource s IsJudgement text
Did (generating g) s h text = text ≡ gen_text g.seed g.agents g.rounds
Did (on_image path action) s h text = h.tells → DoneKind action (h.image path) (h.image_after path) text
Did (loading image from) s h text = h.tells → IsLoaded (h.image from) (h.image_after image) text

-- The same of a command on an image alone.
abbrev pub DidWithImage : Command → HostTurn → Text → Type 0
DidWithImage trial h text = ⊥
DidWithImage (running path) h text = ⊥
DidWithImage judgement h text = ⊥
DidWithImage (generating g) h text = ⊥
DidWithImage (on_image path action) h text = h.tells → DoneKind action (h.image path) (h.image_after path) text
DidWithImage (loading image from) h text = h.tells → IsLoaded (h.image from) (h.image_after image) text

-- The text of a command that puts it out itself: a dump. Where it ends early, a front of it was put out.
abbrev pub Dumped : Command → HostTurn → Text → Type 0
Dumped trial h text = ⊥
Dumped (running path) h text = ⊥
Dumped judgement h text = ⊥
Dumped (generating g) h text = ⊥
Dumped (on_image path action) h text = IsDumping action × (h.tells → DoneKind action (h.image path) (h.image_after path) text)
Dumped (loading image from) h text = ⊥

-- The text of a command that puts it out itself: that of a dump, or the transcript of a run, which was whole or not.
abbrev pub Printed : Command → SourceTurn → HostTurn → Text → Type 0
Printed trial s h text = Dumped trial h text
Printed (running path) s h text = OfSource s (OfScript (IsRunText h path)) text
Printed judgement s h text = Dumped judgement h text
Printed (generating g) s h text = Dumped (generating g) h text
Printed (on_image path action) s h text = Dumped (on_image path action) h text
Printed (loading image from) s h text = Dumped (loading image from) h text

-- The command takes a script, which is refused.
abbrev pub RefusedScript : Command → SourceTurn → Text → Type 0
RefusedScript trial s text = OfSource s IsRefused text ⊎ IsTooLong s text
RefusedScript (running path) s text = OfSource s IsRefused text ⊎ IsTooLong s text
RefusedScript judgement s text = OfSource s IsRefusedBefore text ⊎ IsTooLong s text
RefusedScript (generating g) s text = ⊥
RefusedScript (on_image path action) s text = ⊥
RefusedScript (loading image from) s text = ⊥

-- The command takes an image, or the text of one, which is refused; a run has read its script before.
abbrev pub RefusedImage : Command → SourceTurn → HostTurn → Text → Type 0
RefusedImage trial s h text = ⊥
RefusedImage (running path) s h text = OfSource s (OfScript (IsRefusedRun h path)) text
RefusedImage judgement s h text = ⊥
RefusedImage (generating g) s h text = ⊥
RefusedImage (on_image path action) s h text = h.tells → RefusedKind action (h.image path) text
RefusedImage (loading image from) s h text = h.tells → IsOfImage IsNoDump (h.image from) text

-- The same of a command on an image alone.
abbrev pub RefusedWithImage : Command → HostTurn → Text → Type 0
RefusedWithImage trial h text = ⊥
RefusedWithImage (running path) h text = ⊥
RefusedWithImage judgement h text = ⊥
RefusedWithImage (generating g) h text = ⊥
RefusedWithImage (on_image path action) h text = h.tells → RefusedKind action (h.image path) text
RefusedWithImage (loading image from) h text = h.tells → IsOfImage IsNoDump (h.image from) text

-- The command takes a script, or an image.
abbrev pub TakesScript : Command → Type 0
TakesScript trial = Unit {0}
TakesScript (running path) = Unit {0}
TakesScript judgement = Unit {0}
TakesScript (generating g) = ⊥
TakesScript (on_image path action) = ⊥
TakesScript (loading image from) = ⊥

abbrev pub TakesImage : Command → Type 0
TakesImage trial = ⊥
TakesImage (running path) = Unit {0}
TakesImage judgement = ⊥
TakesImage (generating g) = ⊥
TakesImage (on_image path action) = Unit {0}
TakesImage (loading image from) = Unit {0}

-- The command is one of those on an image that ask for no agents.
abbrev pub IsTool : Command → Type 0
IsTool trial = ⊥
IsTool (running path) = ⊥
IsTool judgement = ⊥
IsTool (generating g) = ⊥
IsTool (on_image path action) = Unit {0}
IsTool (loading image from) = Unit {0}

-- The command runs a script over an image, and a call of the host or of a disk failed.
abbrev pub FailedRun : Command → SourceTurn → HostTurn → Text → Type 0
FailedRun trial s h text = ⊥
FailedRun (running path) s h text = OfSource s (OfScript (IsRunStopped h path)) text
FailedRun judgement s h text = ⊥
FailedRun (generating g) s h text = ⊥
FailedRun (on_image path action) s h text = ⊥
FailedRun (loading image from) s h text = ⊥

-- ---- the ends, each with its cause

abbrev pub IsDone : List Text → SourceTurn → HostTurn → Text → Type 0
IsDone words s h text = Asks words (λ command. Did command s h text)

pub record IsUsage (words : List Text) (text : Text) : Type 0 where
  pub nothing : AsksNothing words
  pub line : text ≡ status_text end.Usage

-- The words ask for no command on an image.
pub record IsNoTool (words : List Text) (text : Text) : Type 0 where
  pub none : Asks words IsTool → ⊥
  pub line : text ≡ status_text end.Usage

abbrev pub IsBadScript : List Text → SourceTurn → Text → Type 0
IsBadScript words s text = Asks words (λ command. RefusedScript command s text)

abbrev pub IsBadImage : List Text → SourceTurn → HostTurn → Text → Type 0
IsBadImage words s h text = Asks words (λ command. RefusedImage command s h text)

-- No text, or a front of one of a kind.
abbrev pub IsFrontOf : (Text → Type 0) → Text → Type 0
IsFrontOf Kind front = (front ≡ []) ⊎ ((rest : Text) × Kind (front ++ rest))

-- A call of the host or of a disk failed in a command on an image. The line stands behind what a dump has put out.
pub record IsHostFault (words : List Text) (h : HostTurn) (text : Text) : Type 0 where
  pub asked : Asks words IsTool
  pub failed : HostFailed h
  pub front : Text
  pub begun : IsFrontOf (λ t. Asks words (λ command. Dumped command h t)) front
  pub line : text ≡ front ++ status_text end.Host

-- A call of the host or of a disk failed, in a command on an image or in a run over one.
abbrev pub IsFault : List Text → SourceTurn → HostTurn → Text → Type 0
IsFault words s h text = IsHostFault words h text ⊎ Asks words (λ command. FailedRun command s h text)

pub record IsSourceFault (words : List Text) (s : SourceTurn) (text : Text) : Type 0 where
  pub asked : Asks words TakesScript
  pub failed : SourceFailed s
  pub line : text ≡ status_text end.Source

-- What is to be put out at each end, with its cause.
abbrev pub Ended : List Text → SourceTurn → HostTurn → Status → Text → Type 0
Ended words s h status.Done text = IsDone words s h text
Ended words s h status.Usage text = IsUsage words text
Ended words s h status.Script text = IsBadScript words s text
Ended words s h status.Image text = IsBadImage words s h text
Ended words s h status.Host text = IsFault words s h text
Ended words s h status.Source text = IsSourceFault words s text
Ended words s h ended text = ⊥

-- A text that is put out at some end.
pub record IsSomeEnd (words : List Text) (s : SourceTurn) (h : HostTurn) (text : Text) : Type 0 where
  pub status : Status
  pub ended : Ended words s h status text

-- The same of a command on an image alone.
abbrev pub ToolEnded : List Text → HostTurn → Status → Text → Type 0
ToolEnded words h status.Done text = Asks words (λ command. DidWithImage command h text)
ToolEnded words h status.Usage text = IsNoTool words text
ToolEnded words h status.Image text = Asks words (λ command. RefusedWithImage command h text)
ToolEnded words h status.Host text = IsHostFault words h text
ToolEnded words h ended text = ⊥

pub record IsSomeToolEnd (words : List Text) (h : HostTurn) (text : Text) : Type 0 where
  pub status : Status
  pub ended : ToolEnded words h status text

-- Nothing was put out, or a front of the text of a dump.
pub record TookDumped (k : SinkTurn) (words : List Text) (h : HostTurn) : Type 0 where
  pub front : Text
  pub took : Took k front
  pub begun : IsFrontOf (λ t. Asks words (λ command. Dumped command h t)) front

-- Nothing was put out, or a front of the text of a dump or of a run.
pub record TookPrinted (k : SinkTurn) (words : List Text) (s : SourceTurn) (h : HostTurn) : Type 0 where
  pub front : Text
  pub took : Took k front
  pub begun : IsFrontOf (λ t. Asks words (λ command. Printed command s h t)) front

-- ---- what is left of the host

-- The command works on the image at a path, or reads it.
abbrev pub Names : Text → Command → Type 0
Names path trial = ⊥
Names path (running image) = path ≡ image
Names path judgement = ⊥
Names path (generating g) = ⊥
Names path (on_image image action) = path ≡ image
Names path (loading image from) = (path ≡ image) ⊎ (path ≡ from)

-- It only reads what is there: `list`, `check`, `dump`; or `load`, where its text is not at the path of its image.
abbrev pub Tells : Text → Command → Type 0
Tells path trial = ⊥
Tells path (running image) = ⊥
Tells path judgement = ⊥
Tells path (generating g) = ⊥
Tells path (on_image image action) = (path ≡ image) × IsReading action
Tells path (loading image from) = (path ≡ from) × (from ≢ image)

-- It brings that image into the format of now.
abbrev pub Migrates : Text → Command → Type 0
Migrates path trial = ⊥
Migrates path (running image) = ⊥
Migrates path judgement = ⊥
Migrates path (generating g) = ⊥
Migrates path (on_image image action) = (path ≡ image) × IsMigration action
Migrates path (loading image from) = ⊥

-- It makes that image anew.
abbrev pub Makes : Text → Command → Type 0
Makes path trial = ⊥
Makes path (running image) = ⊥
Makes path judgement = ⊥
Makes path (generating g) = ⊥
Makes path (on_image image action) = (path ≡ image) × IsMaking action
Makes path (loading image from) = path ≡ image

-- And this is such an image: one that holds nothing, or one that stands for the text that was read.
abbrev pub MadeOf : Command → HostTurn → Text → Type 0
MadeOf trial h c = ⊥
MadeOf (running image) h c = ⊥
MadeOf judgement h c = ⊥
MadeOf (generating g) h c = ⊥
MadeOf (on_image image action) h c = MadeKind action c
MadeOf (loading image from) h c = StandsForText (h.image from) c

-- The status says that no image was made.
abbrev pub IsUnmade : Status → Type 0
IsUnmade status.Done = ⊥
IsUnmade status.Sink = ⊥
IsUnmade ended = Unit {0}

-- What a command that makes an image anew leaves of its path, however it ends: what stood there, or the new image whole, and so
-- wherever it is stopped; and what stood there, where none was made and no call of the host itself failed.
abbrev pub LeavesNew : List Text → HostTurn → Text → Type 0 → Type 0
LeavesNew words h path Unmade = LeavesMade h path (λ c. Asks words (λ command. MadeOf command h c)) Unmade

-- What a run leaves of its path, however it ends: its image still, where its agents did not run; else that image, or what one history
-- of the script's agents leaves there.
abbrev pub LeavesRun : SourceTurn → HostTurn → Text → Type 0
LeavesRun s h path = IsNotRun h path ⊎ ((bytes : Text) × ReadWhole s most_bytes bytes × HasRun h path bytes)

-- The status says that the host was not asked for anything.
abbrev pub IsEarly : Status → Type 0
IsEarly status.Usage = Unit {0}
IsEarly status.Script = Unit {0}
IsEarly status.Source = Unit {0}
IsEarly ended = ⊥

-- ---- one command

-- What is put out at each end where a source was read for one of the two.
abbrev pub TaskEnded : Task → SourceTurn → Status → Text → Type 0
TaskEnded t s status.Done text = OfSource s (TaskDone t) text
TaskEnded t s status.Script text = OfSource s (TaskRefused t) text ⊎ IsTooLong s text
TaskEnded t s status.Source text = SourceFailed s × (text ≡ status_text end.Source)
TaskEnded t s ended text = ⊥
