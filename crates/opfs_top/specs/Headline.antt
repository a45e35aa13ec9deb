-- What a run over the image at a path of a host prints and leaves. This project's own.
use Rattle.std.specs.Prelude.{◌≡◌, ◌⊎◌, ◌≤◌, Bool, List, All, length, Ok}
use Rattle.opfs_base.specs.Texts.{Text}
use Rattle.opfs_commands.specs.Ran.{run_opening, HasImage, IsNotRun, IsRunAt, IsRunFailed, IsRunFault, IsRunRefused, LeavesFronts}
use Rattle.opfs_desk_runs.specs.Runs.{IsToldApart}
use Rattle.opfs_hist.specs.Faults.{disk_faults}
use Rattle.opfs_hist.specs.declared.entry.Entry.{Entry}
use Rattle.opfs_image.specs.declared.geometry.Geometry.{Geometry}
use Rattle.opfs_machine.specs.Changes.{changes, durable}
use Rattle.opfs_machine.specs.Histories.{Legal}
use Rattle.opfs_machine.specs.Openings.{Map, Opening}
use Rattle.opfs_outside.specs.Faults.{RoseBy}
use Rattle.opfs_outside.specs.Turns.{HostServed, HostTurn}
use Rattle.opfs_print.specs.Lines.{text_of}
use Rattle.opfs_script.specs.Reading.{reads}
use Rattle.opfs_script.specs.Scripts.{Asked}
use Rattle.opfs_script_run.specs.Stage.Runs.{EachAlone, EachRuns}

-- One legal history of the machine.
pub record IsOneHistory (tells : Type 0) (o : Opening) (script : List Asked) (history : List Entry) : Type 0 where
  -- the calls of each agent stand in it once, in its order
  pub runs : EachRuns script history
  -- no other entry stands in it but evictions, which are those of agent 0
  pub agents : All (λ e. e.agent ≤ length script) history
  -- it is legal
  pub legal : tells → Legal o history
  -- each party's part of it is a run of that party's own machine
  pub alone : tells → EachAlone o history

-- THE HEADLINE. The text is the transcript of one legal history of the machine over what the image stood for, in which the
-- calls of each agent stand once, in its order, and each party's replies are those of its own calls, and of recorded evictions
-- and refusals, alone. At each moment a stop leaves a front of the history's changes, and from some moment on each image has what
-- a close or a flush that was acknowledged has stored.
pub record IsHeadline (h : HostTurn) (path : Text) (script : List Asked) (text : Text) : Type 0 where
  -- the sizes of the image, what it stood for, and the history
  pub geometry : Geometry
  pub before : Map
  pub history : List Entry
  pub stood : h.tells → HasImage geometry before (h.image path)
  -- the text is the history's transcript
  pub printed : text ≡ text_of history
  -- it is one legal history of the script's agents over what the image stood for
  pub one : IsOneHistory h.tells (run_opening geometry before script) script history
  -- where the disk does not tell its bytes, the same but for the bytes of reads
  pub untold : IsToldApart h.tells (run_opening geometry before script) history
  -- the image stands for all that the history stored
  pub stands : h.tells → HasImage geometry (durable (run_opening geometry before script) (changes (run_opening geometry before script) history)) (h.image_after path)
  -- what a stop leaves at each moment, whether a call failed or not
  pub stops : h.tells → LeavesFronts h path (run_opening geometry before script) history
  -- a call failed only where the disk did
  pub faults : RoseBy (disk_faults history) h.faults h.faults_after

-- The line of a fault of a run: alone, where its agents did not run; behind the transcript, where it failed in its end.
abbrev pub IsRunStopped : HostTurn → Text → List Asked → Text → Type 0
IsRunStopped h path script text = IsRunFault h path text ⊎ IsRunFailed h path script text

-- The line of an image that is refused, for whatever script.
abbrev pub IsRefusedRun : HostTurn → Text → List Asked → Text → Type 0
IsRefusedRun h path script text = IsRunRefused h path text

-- Bytes read as a script, and the text is of this kind for it.
pub record OfScript (Kind : List Asked → Text → Type 0) (bytes text : Text) : Type 0 where
  pub script : List Asked
  pub read : reads bytes ≡ Ok script
  pub kind : Kind script text

-- Bytes read as a script, and its agents ran over the image at a path: one history, and what it leaves there. Where memory was
-- short, not all their calls need stand in it.
pub record HasRun (h : HostTurn) (path bytes : Text) : Type 0 where
  pub script : List Asked
  pub read : reads bytes ≡ Ok script
  pub whole : Bool
  pub history : List Entry
  pub at : IsRunAt h path (HostServed h) whole script history

-- What a run leaves of its path that has read these bytes, however it ends: its image still, where the agents did not run; else
-- that image, or what one history of theirs leaves.
abbrev pub LeavesOf : HostTurn → Text → Text → Type 0
LeavesOf h path bytes = IsNotRun h path ⊎ HasRun h path bytes
