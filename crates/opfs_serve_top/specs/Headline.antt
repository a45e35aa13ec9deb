-- How a conversation over the image at a path ends, by its status. This project's own.
use Rattle.std.specs.Prelude.{◌≡◌, ◌⊎◌, ℕ, List, [], ◌∷◌}
use Rattle.opfs_base.specs.Texts.{Text}
use Rattle.opfs_commands.specs.Commands.{IsPath}
use Rattle.opfs_commands.specs.Ran.{IsNotRun}
use Rattle.opfs_commands.specs.Telling.{IsLineOf}
use Rattle.opfs_desk.specs.Seen.{DeskSeen}
use Rattle.opfs_image.specs.declared.refusal.ImageRefusal.{ImageRefusal}
use Rattle.opfs_outside.specs.Faults.{Rose}
use Rattle.opfs_outside.specs.Turns.{HostFailed, HostTurn}
use Rattle.opfs_outside.specs.declared.disk.Disk.{Ghosts as DiskWords}
use Rattle.opfs_port.specs.Said.{Said}
use Rattle.opfs_print.specs.Status.{status_text}
use Rattle.opfs_print.specs.declared.end.End.TheVariants as end
use Rattle.opfs_script.specs.Scripts.{Asked}
use Rattle.opfs_script.specs.declared.refusal.ScriptRefusal.{ScriptRefusal}
use Rattle.opfs_serve_top.specs.Endings.{IsBroken, IsHeld, IsRefusedBy, IsUnserved}
use Rattle.opfs_serve_top.specs.Hearing.{HasToldNothing, IsNoFirst, NamesAgents}
use Rattle.opfs_serve_top.specs.declared.host.Ending.{Ending}
use Rattle.opfs_serve_top.specs.declared.host.Ending.TheVariants as ending
use Rattle.opfs_serving.specs.declared.progress.State.{State}
use Rattle.opfs_serving.specs.declared.progress.State.TheVariants as state
use Rattle.opfs_top.specs.Doing.{IsRefusal}
use Rattle.opfs_top.specs.declared.status.Status.{Status}
use Rattle.opfs_top.specs.declared.status.Status.TheVariants as status

-- The one word is a path.
pub record Asks (words : List Text) (path : Text) : Type 0 where
  pub one : words ≡ path ∷ []
  pub path_is : IsPath path

-- The words are not one word that is a path.
abbrev pub AsksNothing : List Text → Type 0
AsksNothing words = (path : Text) → Asks words path → ⊥

-- The status of a conversation that was held.
abbrev pub status_of : State → Status
status_of state.On = status.Done
status_of state.Failed = status.Sink
status_of state.Short = status.Memory

-- The status and the line of an ending.
abbrev pub IsReplyTo : Ending → Status → Text → Type 0
IsReplyTo (ending.Held ended) by line = (by ≡ status_of ended) × (line ≡ [])
IsReplyTo (ending.Broken ended) by line = (by ≡ status.Host) × (line ≡ status_text end.Host)
IsReplyTo (ending.Refused why) by line = (by ≡ status.Image) × IsLineOf why line
IsReplyTo ending.Failed by line = (by ≡ status.Host) × (line ≡ status_text end.Host)

-- The image is refused, and the line says why.
pub record IsRefusedWith {P : Type 0} (h : HostTurn) (path : Text) (first now : P) (line : Text) : Type 0 where
  pub why : ImageRefusal
  pub by : IsRefusedBy h path first now why
  pub says : IsLineOf why line

module _ {D P : Type 0} (w : DiskWords D) (h : HostTurn) (path : Text) (tells : Type 0) (said : P → List (Said (DeskSeen D))) where
  -- A disk or the host failed, before the conversation or behind it.
  abbrev pub HasFaulted : List Asked → P → P → Type 0
  HasFaulted agents first now = (IsUnserved h path first now × HostFailed h) ⊎ ((ended : State) × IsBroken w h path tells said agents first now ended)

  -- By status, for agents that the first line named: what was said behind it, what is left at the path, and the line that says so.
  abbrev pub EndsFor : List Asked → P → P → Status → Text → Type 0
  EndsFor agents first now status.Done line = IsHeld w h path tells said agents first now state.On × (line ≡ [])
  EndsFor agents first now status.Sink line = IsHeld w h path tells said agents first now state.Failed × (line ≡ [])
  EndsFor agents first now status.Memory line = IsHeld w h path tells said agents first now state.Short × (line ≡ [])
  EndsFor agents first now status.Image line = IsRefusedWith h path first now line
  EndsFor agents first now status.Host line = HasFaulted agents first now × (line ≡ status_text end.Host)
  EndsFor agents first now status.Usage line = ⊥
  EndsFor agents first now status.Script line = ⊥
  EndsFor agents first now status.Source line = ⊥

  -- The first line named agents, and it ends so for them.
  pub record EndsForAgents (rest : P → List Text) (begun now : P) (by : Status) (line : Text) : Type 0 where
    pub agents : List Asked
    pub first : P
    pub named : NamesAgents tells said rest begun first agents
    pub ends : EndsFor agents first now by line

-- The first line names no agents, and the line says why.
pub record IsRefusedFirst {T P : Type 0} (tells : Type 0) (said : P → List (Said T)) (rest : P → List Text) (begun now : P) (line : Text) : Type 0 where
  pub why : ScriptRefusal
  pub by : IsNoFirst tells said rest begun now why
  pub says : IsRefusal why line

-- The port failed before a line came.
pub record HasFailedFirst {T P : Type 0} (tells : Type 0) (said : P → List (Said T)) (faults : P → ℕ) (begun now : P) (line : Text) : Type 0 where
  pub rose : Rose (faults begun) (faults now)
  pub unsaid : tells → said now ≡ said begun
  pub says : line ≡ status_text end.Source

module _ {D P : Type 0} (w : DiskWords D) (h : HostTurn) (tells : Type 0) (said : P → List (Said (DeskSeen D))) (rest : P → List Text) (faults : P → ℕ) (begun now : P) where
  -- By status, where the words ask for a path.
  abbrev pub EndsAt : Text → Status → Text → Type 0
  EndsAt path status.Done line = EndsForAgents w h path tells said rest begun now status.Done line
  EndsAt path status.Sink line = EndsForAgents w h path tells said rest begun now status.Sink line
  EndsAt path status.Memory line = EndsForAgents w h path tells said rest begun now status.Memory line
  EndsAt path status.Image line = EndsForAgents w h path tells said rest begun now status.Image line
  EndsAt path status.Host line = EndsForAgents w h path tells said rest begun now status.Host line
  EndsAt path status.Script line = IsRefusedFirst tells said rest begun now line
  EndsAt path status.Source line = HasFailedFirst tells said faults begun now line
  EndsAt path status.Usage line = ⊥

  -- The words ask for a path, and it ends so.
  pub record EndsAsked (words : List Text) (by : Status) (line : Text) : Type 0 where
    pub path : Text
    pub asks : Asks words path
    pub ends : EndsAt path by line

  -- The words ask for nothing: nothing was heard or told.
  pub record EndsUnasked (words : List Text) (by : Status) (line : Text) : Type 0 where
    pub nothing : AsksNothing words
    pub usage : by ≡ status.Usage
    pub unsaid : now ≡ begun
    pub says : line ≡ status_text end.Usage

  -- THE HEADLINE of a conversation, for each end of it: what was said, what is left at the path, and the line that says so.
  abbrev pub EndsBy : List Text → Status → Text → Type 0
  EndsBy words by line = EndsUnasked words by line ⊎ EndsAsked words by line

-- There was no memory to begin: nothing was told, and the path has its image still.
pub record IsUnanswered {T P : Type 0} (h : HostTurn) (tells : Type 0) (said : P → List (Said T)) (rest : P → List Text) (begun now : P) (path : Text) : Type 0 where
  pub not : IsNotRun h path
  pub quiet : HasToldNothing tells said rest begun now
