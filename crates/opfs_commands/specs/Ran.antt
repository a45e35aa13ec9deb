-- A run of a script's agents over the image at a path of a host, and how it ended. This project's own.
use Rattle.std.specs.Prelude.{◌≡◌, ◌≢◌, ◌⊎◌, ℕ, ◌+◌, ◌-◌, ◌^◌, Bool, true, List, [], ◌++◌, Option, Some, Result, Ok, Err, IsOk, IsErr, IfOk, OnErr}
use Rattle.std.specs.declared.alloc.AllocError.{AllocError}
use Rattle.opfs_base.specs.Texts.{Text}
use Rattle.opfs_books.specs.Laws.Fronts.{IsShownOnce}
use Rattle.opfs_commit.specs.Trail.{IsContentAt}
use Rattle.opfs_desk_runs.specs.Runs.{IsHistoryOf, IsImageOf, IsKeptSince, IsLeft, IsRunOn, opening_in}
use Rattle.opfs_desk_runs.specs.declared.running.Completion.{Completion}
use Rattle.opfs_hist.specs.Faults.{disk_faults}
use Rattle.opfs_hist.specs.declared.entry.Entry.{Entry}
use Rattle.opfs_image.specs.declared.geometry.Geometry.{Geometry}
use Rattle.opfs_image.specs.declared.refusal.ImageRefusal.{ImageRefusal}
use Rattle.opfs_image.specs.declared.refusal.ImageRefusal.TheVariants as image
use Rattle.opfs_journal.specs.Walking.{OnlyRead}
use Rattle.opfs_journal.specs.declared.refusal.DiskFault.{DiskFault}
use Rattle.opfs_machine.specs.Changes.{changes, durable}
use Rattle.opfs_machine.specs.Openings.{Map, Opening}
use Rattle.opfs_outside.specs.Faults.{Rose, RoseBy}
use Rattle.opfs_outside.specs.Turns.{HostFailed, HostServed, HostTurn, ImageStays, SinkFailed, SinkTurn, TookNothing}
use Rattle.opfs_outside.specs.declared.disk.Disk.{Ghosts as DiskWords}
use Rattle.opfs_print.specs.Lines.{text_of}
use Rattle.opfs_print.specs.Status.{status_text}
use Rattle.opfs_print.specs.declared.end.End.TheVariants as end
use Rattle.opfs_script.specs.Scripts.{Asked}
use Rattle.opfs_telling.specs.Telling.{HasPut, HasPutFront}
use Rattle.opfs_telling.specs.declared.telling.State.{State}
use Rattle.opfs_telling.specs.declared.telling.State.TheVariants as state
use Rattle.opfs_commands.specs.Telling.{IsBegun, IsLineOf, IsOfImage, IsRefusedLine}
use Rattle.opfs_commands.specs.declared.answers.ToolAnswer.{ToolAnswer}
use Rattle.opfs_commands.specs.declared.answers.ToolEnd.{ToolEnd}
use Rattle.opfs_commands.specs.declared.answers.ToolEnd.TheVariants as tool_end
use Rattle.opfs_commands.specs.declared.runs.RunEnd.{RunEnd}
use Rattle.opfs_commands.specs.declared.runs.RunEnd.TheVariants as run_end

-- ---- on a disk

-- The agents ran over a disk that was so, which is now so; the end went like this, and of the transcript the sink took so much.
pub record HasRunOn {D : Type 0} (w : DiskWords D) (k : SinkTurn) (script : List Asked) (old new : D) (End : Result (Unit {0}) DiskFault → Type 0) (told : State) : Type 0 where
  pub run : Completion D
  pub same : run.disk ≡ new
  pub on : IsRunOn w script old run
  pub whole : run.whole ≡ true
  pub ended : End run.done
  pub put : HasPut k run.history told

-- The agents ran, but there was no memory for all that they asked, or for the lines of that; a front of the transcript was put out.
pub record HasRunShort {D : Type 0} (w : DiskWords D) (k : SinkTurn) (script : List Asked) (old new : D) : Type 0 where
  pub run : Completion D
  pub same : run.disk ≡ new
  pub on : IsRunOn w script old run
  pub put : HasPutFront k run.history

-- What is put out where they did not run: why the image is refused, or that the disk failed.
abbrev pub IsNoRun : {D : Type 0} → DiskWords D → D → D → ToolEnd → Text → Type 0
IsNoRun w old new tool_end.Image text = w.tells → IsRefusedLine (w.content old) text
IsNoRun w old new tool_end.Host text = Rose (w.faults old) (w.faults new) × (text ≡ status_text end.Host)
IsNoRun w old new ended text = ⊥

pub record HasNotRun {D : Type 0} (w : DiskWords D) (old new : D) (a : ToolAnswer) : Type 0 where
  pub only : OnlyRead w old new
  pub answer : IsNoRun w old new a.end a.text

abbrev pub RanOn : {D : Type 0} → DiskWords D → SinkTurn → List Asked → D → D → Result RunEnd AllocError → Type 0
RanOn w k script old new (Ok run_end.Done) = HasRunOn w k script old new (λ done. IsOk done) state.On
RanOn w k script old new (Ok run_end.Failed) = HasRunOn w k script old new (λ done. IsErr done) state.On
RanOn w k script old new (Ok run_end.Cut) = HasRunOn w k script old new (λ done. Unit {0}) state.Failed
RanOn w k script old new (Ok (run_end.Before a)) = HasNotRun w old new a × TookNothing k
RanOn w k script old new (Err e) = (OnlyRead w old new × TookNothing k) ⊎ HasRunShort w k script old new

-- How a run ended, by whether it was whole, how it was told, and how its end went.
abbrev pub IsEndOf : Bool → State → Result (Unit {0}) DiskFault → Result RunEnd AllocError → Type 0
IsEndOf whole told done (Ok run_end.Done) = (whole ≡ true) × (told ≡ state.On) × IsOk done
IsEndOf whole told done (Ok run_end.Failed) = (whole ≡ true) × (told ≡ state.On) × IsErr done
IsEndOf whole told done (Ok run_end.Cut) = (whole ≡ true) × (told ≡ state.Failed)
IsEndOf whole told done (Ok (run_end.Before a)) = ⊥
IsEndOf whole told done (Err e) = Unit {0}

-- The answer where an image is refused, or the disk failed; there is none for want of memory.
pub record IsRefusalAnswer (refusal : ImageRefusal) (a : ToolAnswer) : Type 0 where
  pub fault : refusal ≡ image.DiskFault → (a.end ≡ tool_end.Host) × (a.text ≡ status_text end.Host)
  pub memory : refusal ≢ image.NoMemory
  pub refused : refusal ≢ image.DiskFault → (a.end ≡ tool_end.Image) × IsLineOf refusal a.text

abbrev pub IsRefusedEnd : ImageRefusal → RunEnd → Type 0
IsRefusedEnd refusal (run_end.Before a) = IsRefusalAnswer refusal a
IsRefusedEnd refusal e = ⊥

-- The line of a fault.
abbrev pub IsFaultLine : ToolAnswer → Type 0
IsFaultLine a = (a.end ≡ tool_end.Host) × (a.text ≡ status_text end.Host)

-- The sink failed, and nothing more is put out.
abbrev pub IsCutOff : ToolAnswer → Type 0
IsCutOff a = (a.end ≡ tool_end.Sink) × (a.text ≡ [])

-- The answer where the disk was given back: what is put out behind the transcript, if there is one.
abbrev pub IsAnswerOf : RunEnd → ToolAnswer → Type 0
IsAnswerOf run_end.Done a = (a.end ≡ tool_end.Done) × (a.text ≡ [])
IsAnswerOf run_end.Failed a = IsFaultLine a
IsAnswerOf run_end.Cut a = IsCutOff a
IsAnswerOf (run_end.Before b) a = a ≡ b

-- The answer where it was not.
abbrev pub IsFaultOf : RunEnd → ToolAnswer → Type 0
IsFaultOf run_end.Done a = IsFaultLine a
IsFaultOf run_end.Failed a = IsFaultLine a
IsFaultOf run_end.Cut a = IsCutOff a
IsFaultOf (run_end.Before b) a = IsFaultLine a

-- The disk was given back, and the answer is that of the end; or it was not, and the answer is that of a fault. Nothing is answered for
-- want of memory.
abbrev pub IsGivenOr : Type 0 → Type 0 → Result RunEnd AllocError → Result ToolAnswer AllocError → Type 0
IsGivenOr Back Fault (Ok e) (Ok a) = (Back × IsAnswerOf e a) ⊎ (Fault × IsFaultOf e a)
IsGivenOr Back Fault (Err e) (Ok a) = ⊥
IsGivenOr Back Fault r (Err e) = Unit {0}

-- ---- at a path of a host

-- With what a run begins: a map within the sizes of an image, and the agents of scripts.
abbrev pub run_opening : Geometry → Map → List Asked → Opening
run_opening g before script = opening_in g before script

-- One history of a script's agents, and whether they were run whole.
abbrev pub IsRunHistory : Type 0 → Bool → Opening → List Asked → List Entry → Type 0
IsRunHistory tells whole o script history = IsHistoryOf tells whole o script history

-- A host has an image of these sizes at a path, which stands for a map.
abbrev pub HasImage : Geometry → Map → Option Text → Type 0
HasImage g m found = (c : Text) × (found ≡ Some c) × IsImageOf g m c

-- A host has an image at a path that a run may have left.
abbrev pub HasLeft : Opening → List Entry → Option Text → Type 0
HasLeft o history found = (c : Text) × (found ≡ Some c) × IsLeft o history c

-- What a stop may have left at a path since: what it may have left there before, and fronts of the history; and from some moment of the
-- run on, no image lacks what a close or a flush has stored. The images of moments are those on the path's trail.
pub record LeavesFronts (h : HostTurn) (path : Text) (o : Opening) (history : List Entry) : Type 0 where
  pub fronts : (c : Text) → h.trail_after path c → h.trail path c ⊎ IsShownOnce o 0 history c
  pub moments : (t : ℕ) (c : Text) → h.since_after path t c → h.trail_after path c
  pub keeps : (n : ℕ) → IsContentAt (changes o history) n → IsKeptSince (h.moment_after path) (h.since_after path) o history n

-- What stands at a path however a run ended, also where its disk was not given back: the image that was there, or one that the run may
-- have left; and a stop may have left nothing there but what it may have left before, and fronts of the history.
pub record IsOldOrLeft (h : HostTurn) (path : Text) (o : Opening) (history : List Entry) : Type 0 where
  pub image : (h.image_after path ≡ h.image path) ⊎ HasLeft o history (h.image_after path)
  pub trail : (c : Text) → h.trail_after path c → h.trail path c ⊎ IsShownOnce o 0 history c

-- A run over the image at a path: its history over what the image stood for; what stands there however it ended; and what is left there
-- where the disk was given back.
pub record IsRunAt (h : HostTurn) (path : Text) (Back : Type 0) (whole : Bool) (script : List Asked) (history : List Entry) : Type 0 where
  pub geometry : Geometry
  pub before : Map
  pub stood : h.tells → HasImage geometry before (h.image path)
  pub is : IsRunHistory h.tells whole (run_opening geometry before script) script history
  pub anyway : h.tells → IsOldOrLeft h path (run_opening geometry before script) history
  pub left : h.tells → Back → HasLeft (run_opening geometry before script) history (h.image_after path)
  pub stands : h.tells → Back → (Rose h.faults h.faults_after → ⊥) → HasImage geometry (durable (run_opening geometry before script) (changes (run_opening geometry before script) history)) (h.image_after path)
  pub stops : h.tells → Back → LeavesFronts h path (run_opening geometry before script) history
  pub faults : RoseBy (disk_faults history) h.faults h.faults_after

-- The run and its end went well: the text is the transcript, and the image stands for all that the history stored.
pub record IsRunDone (h : HostTurn) (path : Text) (script : List Asked) (text : Text) : Type 0 where
  pub history : List Entry
  pub at : IsRunAt h path (Unit {0}) true script history
  pub printed : text ≡ text_of history
  pub stands : h.tells → HasImage at.geometry (durable (run_opening at.geometry at.before script) (changes (run_opening at.geometry at.before script) history)) (h.image_after path)

-- The run went well, but a disk or the host failed in its end: the line stands behind the transcript. That fault is one more than those
-- of the history.
pub record IsRunFailed (h : HostTurn) (path : Text) (script : List Asked) (text : Text) : Type 0 where
  pub history : List Entry
  pub at : IsRunAt h path (HostServed h) true script history
  pub printed : text ≡ text_of history ++ status_text end.Host
  pub failed : HostFailed h
  pub counted : RoseBy (disk_faults history + 1) h.faults h.faults_after ⊎ (h.own_after ≡ 2 ^ 64 - 1)

-- The agents did not run: the path has its image still.
abbrev pub IsNotRun : HostTurn → Text → Type 0
IsNotRun h path = h.tells → ImageStays h path

-- The agents did not run, and a disk or the host failed.
pub record IsRunFault (h : HostTurn) (path : Text) (text : Text) : Type 0 where
  pub not : IsNotRun h path
  pub failed : HostFailed h
  pub line : text ≡ status_text end.Host

-- They did not run, since the image is refused; it is there still.
pub record IsRunRefused (h : HostTurn) (path : Text) (text : Text) : Type 0 where
  pub refused : h.tells → IsOfImage IsRefusedLine (h.image path) text
  pub stays : h.tells → ImageStays h path

-- How a run over the image at a path ended, by all that was put out.
abbrev pub RanTo : HostTurn → Text → List Asked → ToolEnd → Text → Type 0
RanTo h path script tool_end.Done text = IsRunDone h path script text
RanTo h path script tool_end.Image text = IsRunRefused h path text
RanTo h path script tool_end.Host text = IsRunFault h path text ⊎ IsRunFailed h path script text
RanTo h path script tool_end.Sink text = ⊥

-- The transcript of a run over the image at a path, which was whole or not.
pub record IsRunText (h : HostTurn) (path : Text) (script : List Asked) (text : Text) : Type 0 where
  pub whole : Bool
  pub history : List Entry
  pub at : IsRunAt h path (HostServed h) whole script history
  pub lines : text ≡ text_of history

-- There was no memory: the agents did not run, or not to the end of their scripts, or their lines have no room.
abbrev pub IsRunShort : HostTurn → Text → List Asked → Type 0
IsRunShort h path script = IsNotRun h path ⊎ ((whole : Bool) × (history : List Entry) × IsRunAt h path (HostServed h) whole script history)

-- The answer tells how it ended behind what was put out; where the sink failed, a front of what is put out at some end was.
abbrev pub RanBehind : HostTurn → SinkTurn → Text → List Asked → Text → ToolEnd → Text → Type 0
RanBehind h k path script front tool_end.Done text = RanTo h path script tool_end.Done (front ++ text)
RanBehind h k path script front tool_end.Image text = RanTo h path script tool_end.Image (front ++ text)
RanBehind h k path script front tool_end.Host text = RanTo h path script tool_end.Host (front ++ text)
RanBehind h k path script front tool_end.Sink text = SinkFailed k × (text ≡ []) × ((ended : ToolEnd) × (rest : Text) × RanTo h path script ended (front ++ rest))

-- A run over the image at a path: what it has put out, nothing or a front of its transcript; and how it ended behind that.
pub record RanAt (h : HostTurn) (k : SinkTurn) (path : Text) (script : List Asked) (r : Result ToolAnswer AllocError) : Type 0 where
  pub front : Text
  pub begun : IsBegun k (IsRunText h path script) front
  pub ended : IfOk r (λ a. RanBehind h k path script front a.end a.text)
  pub short : OnErr r (IsRunShort h path script)
