-- How a conversation over the image at a path ends. This project's own.
use Rattle.std.specs.Prelude.{◌≡◌, Bool, List, Some, Err}
use Rattle.opfs_base.specs.Texts.{Text}
use Rattle.opfs_codec.specs.declared.change.Format.TheVariants.{New}
use Rattle.opfs_commands.specs.Ran.{HasImage, IsNotRun, IsRunAt, run_opening}
use Rattle.opfs_desk.specs.Seen.{DeskSeen}
use Rattle.opfs_image.specs.Reading.{read_as}
use Rattle.opfs_image.specs.declared.refusal.ImageRefusal.{ImageRefusal}
use Rattle.opfs_machine.specs.Changes.{changes, durable}
use Rattle.opfs_outside.specs.Turns.{HostFailed, HostServed, HostTurn, ImageStays}
use Rattle.opfs_outside.specs.declared.disk.Disk.{Ghosts as DiskWords}
use Rattle.opfs_port.specs.Said.{Said}
use Rattle.opfs_script.specs.Scripts.{Asked}
use Rattle.opfs_hist.specs.declared.entry.Entry.{Entry}
use Rattle.opfs_serve_runs.specs.Conversations.{IsConversation}
use Rattle.opfs_serve_top.specs.declared.host.Ending.{Ending}
use Rattle.opfs_serve_top.specs.declared.host.Ending.TheVariants as ending
use Rattle.opfs_serving.specs.declared.progress.State.{State}

-- A conversation over the image at a path of a host: one history of what its agents were asked for, and what was said. However it ended, what is left there
-- is the image that was there, or one that the history may have left; which one is known where the disk was given back.
pub record IsServedAt {D P : Type 0} (w : DiskWords D) (h : HostTurn) (path : Text) (Back : Type 0) (tells : Type 0) (said : P → List (Said (DeskSeen D))) (agents : List Asked) (begun now : P) (whole : Bool) (ended : State) : Type 0 where
  pub scripts : List Asked
  pub history : List Entry
  pub at : IsRunAt h path Back whole scripts history
  pub talked : IsConversation w (run_opening at.geometry at.before scripts) history (h.tells × Back) (h.moment_after path) (h.since_after path) tells said agents begun now ended scripts

-- It was held whole, and the image at the path stands for all that the history stored.
pub record IsHeld {D P : Type 0} (w : DiskWords D) (h : HostTurn) (path : Text) (tells : Type 0) (said : P → List (Said (DeskSeen D))) (agents : List Asked) (begun now : P) (ended : State) : Type 0 where
  pub whole : Bool
  pub served : IsServedAt w h path (Unit {0}) tells said agents begun now whole ended
  pub stands : h.tells → HasImage served.at.geometry (durable (run_opening served.at.geometry served.at.before served.scripts) (changes (run_opening served.at.geometry served.at.before served.scripts) served.history)) (h.image_after path)

-- It was held, but a call of the host or of its disk failed at the end.
pub record IsBroken {D P : Type 0} (w : DiskWords D) (h : HostTurn) (path : Text) (tells : Type 0) (said : P → List (Said (DeskSeen D))) (agents : List Asked) (begun now : P) (ended : State) : Type 0 where
  pub whole : Bool
  pub served : IsServedAt w h path (HostServed h) tells said agents begun now whole ended
  pub failed : HostFailed h

-- It was not held: nothing was heard or told, and the path has its image still.
pub record IsUnserved {P : Type 0} (h : HostTurn) (path : Text) (begun now : P) : Type 0 where
  pub not : IsNotRun h path
  pub unsaid : now ≡ begun

pub record IsRefusedBy {P : Type 0} (h : HostTurn) (path : Text) (begun now : P) (why : ImageRefusal) : Type 0 where
  pub unserved : IsUnserved h path begun now
  pub stays : h.tells → ImageStays h path
  pub refused : h.tells → (c : Text) × (h.image path ≡ Some c) × (read_as New New c ≡ Err why)

abbrev pub IsEnding : {D P : Type 0} → DiskWords D → HostTurn → Text → Type 0 → (P → List (Said (DeskSeen D))) → List Asked → P → P → Ending → Type 0
IsEnding w h path tells said agents begun now (ending.Held ended) = IsHeld w h path tells said agents begun now ended
IsEnding w h path tells said agents begun now (ending.Broken ended) = IsBroken w h path tells said agents begun now ended
IsEnding w h path tells said agents begun now (ending.Refused why) = IsRefusedBy h path begun now why
IsEnding w h path tells said agents begun now ending.Failed = IsUnserved h path begun now × HostFailed h
