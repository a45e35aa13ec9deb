-- What a command on an image tells, and what it leaves of its path, by what was asked. This project's own.
use Rattle.std.specs.Prelude.{◌≡◌, ◌≢◌, ◌⊎◌, ◌≤◌, ◌-◌, ◌^◌, Option, Result, Ok, Err}
use Rattle.std.specs.declared.alloc.AllocError.{AllocError}
use Rattle.opfs_base.specs.Texts.{Text}
use Rattle.opfs_outside.specs.Turns.{HostTurn, HostServed, ImageStays, IsOldOrNew, OthersAsBefore}
use Rattle.opfs_dump.specs.Loading.Laid.{StandsAs}
use Rattle.opfs_machine.specs.Openings.{empty_map}
use Rattle.opfs_commands.specs.Telling.{IsTold, IsDumped, IsRefusedLine, IsFormatted, IsMigrated, IsNotMigrated, IsOfImage}
use Rattle.opfs_commands.specs.declared.answers.ReadTool.TheVariants as tool
use Rattle.opfs_commands.specs.declared.answers.ToolAnswer.{ToolAnswer}
use Rattle.opfs_commands.specs.declared.answers.ToolEnd.TheVariants as tool_end
use Rattle.opfs_commands.specs.declared.words.Action.{Action}
use Rattle.opfs_commands.specs.declared.words.Action.TheVariants.{Format, List, Check, Migrate, Dump}

-- The text of a command that was done, where these are the images at its path before and after.
abbrev pub DoneKind : Action → Option Text → Option Text → Text → Type 0
DoneKind (Format g) before after = IsOfImage (IsFormatted g) after
DoneKind List before after = IsOfImage (IsTold tool.List) before
DoneKind Check before after = IsOfImage (IsTold tool.Check) before
DoneKind Migrate before after = IsMigrated before after
DoneKind Dump before after = IsOfImage IsDumped before

-- The text of a command whose image was refused.
abbrev pub RefusedKind : Action → Option Text → Text → Type 0
RefusedKind (Format g) before text = ⊥
RefusedKind List before text = IsOfImage IsRefusedLine before text
RefusedKind Check before text = IsOfImage IsRefusedLine before text
RefusedKind Migrate before text = IsOfImage IsNotMigrated before text
RefusedKind Dump before text = IsOfImage IsRefusedLine before text

-- The command only reads.
abbrev pub IsReading : Action → Type 0
IsReading (Format g) = ⊥
IsReading List = Unit {0}
IsReading Check = Unit {0}
IsReading Migrate = ⊥
IsReading Dump = Unit {0}

-- The command brings an image into the format of now.
abbrev pub IsMigration : Action → Type 0
IsMigration (Format g) = ⊥
IsMigration List = ⊥
IsMigration Check = ⊥
IsMigration Migrate = Unit {0}
IsMigration Dump = ⊥

-- The command makes its image anew.
abbrev pub IsMaking : Action → Type 0
IsMaking (Format g) = Unit {0}
IsMaking List = ⊥
IsMaking Check = ⊥
IsMaking Migrate = ⊥
IsMaking Dump = ⊥

-- And this is such an image: of the sizes that were asked for, standing for nothing.
abbrev pub MadeKind : Action → Text → Type 0
MadeKind (Format g) c = StandsAs g empty_map c
MadeKind List c = ⊥
MadeKind Check c = ⊥
MadeKind Migrate c = ⊥
MadeKind Dump c = ⊥

-- The command puts its text out itself.
abbrev pub IsDumping : Action → Type 0
IsDumping (Format g) = ⊥
IsDumping List = ⊥
IsDumping Check = ⊥
IsDumping Migrate = ⊥
IsDumping Dump = Unit {0}

-- A path was only read: it has its image still, and every other path is as before.
pub record LeavesText (h : HostTurn) (path : Text) : Type 0 where
  pub stays : ImageStays h path
  pub others : OthersAsBefore h path

-- The counts of a host do not fall; that of all faults may be full.
pub record FaultsLater (h : HostTurn) : Type 0 where
  pub own : h.own ≤ h.own_after
  pub all : (h.faults ≤ h.faults_after) ⊎ (h.faults_after ≡ 2 ^ 64 - 1)

-- The answer says that all was done; or it does not.
pub record IsDoneBy (result : Result ToolAnswer AllocError) : Type 0 where
  pub answer : ToolAnswer
  pub is : result ≡ Ok answer
  pub done : answer.end ≡ tool_end.Done

abbrev pub IsUnmade : Result ToolAnswer AllocError → Type 0
IsUnmade (Ok answer) = answer.end ≢ tool_end.Done
IsUnmade (Err e) = Unit {0}

-- What making an image anew leaves of its path, however it ends: what stood there, or a new image of this kind, whole, and so
-- wherever it is stopped. Where none was made, and no call of the host itself failed, what stood there is there still.
pub record LeavesMade (h : HostTurn) (path : Text) (New : Text → Type 0) (Unmade : Type 0) : Type 0 where
  pub whole : IsOldOrNew h path New
  pub stays : Unmade → HostServed h → ImageStays h path
