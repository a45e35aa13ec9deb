-- A run of a script's agents over an image that was recovered. This project's own.
use Rattle.std.specs.Prelude.{◌≡◌, ◌≤◌, ◌⊎◌, ℕ, ◌+◌, Bool, true, List, ◌++◌, All, length, Option, Ok, OnOk, OnErr}
use Rattle.opfs_books.specs.Laws.Fronts.{IsRecent, IsShownOnce}
use Rattle.opfs_commit.specs.Shown.{IsShown}
use Rattle.opfs_commit.specs.Trail.{IsContentAt}
pub use Rattle.opfs_desk.specs.Apart.{IsToldApart}
pub use Rattle.opfs_desk.specs.Moments.{IsKeptSince}
use Rattle.opfs_desk_runs.specs.declared.running.Completion.{Completion}
use Rattle.opfs_hist.specs.Faults.{disk_faults}
use Rattle.opfs_hist.specs.declared.entry.Entry.{Entry}
use Rattle.opfs_laws.specs.Histories.Doubts.{doubted}
use Rattle.opfs_image.specs.Agreeing.{built_in}
use Rattle.opfs_codec.specs.declared.change.Format.TheVariants.{New}
use Rattle.opfs_image.specs.Filling.{filled}
use Rattle.opfs_image.specs.Reading.{read_as}
use Rattle.opfs_image.specs.Superblock.{data_base}
use Rattle.opfs_image.specs.declared.geometry.Geometry.{Geometry}
use Rattle.opfs_image.specs.declared.recovered.Recovered.{Recovered}
use Rattle.opfs_machine.specs.Changes.{changes, durable, floor}
use Rattle.opfs_machine.specs.Histories.{Legal}
use Rattle.opfs_machine.specs.Openings.{Map, Opening}
use Rattle.opfs_books.specs.Openings.Openings.{limits_by}
use Rattle.opfs_outside.specs.Faults.{RoseBy}
use Rattle.opfs_records.specs.Replay.Built.{Built}
use Rattle.opfs_outside.specs.declared.disk.Disk.{Ghosts as DiskWords}
use Rattle.opfs_script.specs.Scripts.{Asked}
use Rattle.opfs_script_run.specs.Stage.Openings.{opening_of}
use Rattle.opfs_script_run.specs.Stage.Runs.{EachAlone, EachCut, EachRuns}

-- With what a run begins over an image: what that stands for, whatever its disk tells, within its sizes, and the agents of the scripts.
abbrev pub opening_over : {D : Type 0} (w : DiskWords D) → Recovered D w → List Asked → Opening
opening_over w from script = opening_of (filled (data_base from.geometry) (w.content from.journal.disk) (built_in from.tree from.shed)) (limits_by from.geometry) script

-- One history of a script's agents, and whether they were run whole. The entries of each agent are its script's run, or where memory was
-- short those of a front of it; no other agent has an entry but 0, whose entries are the evictions. It is legal, but for the bytes of
-- reads where the disk does not tell; and each party's part of it is a run of that party's own machine.
pub record IsHistoryOf (tells : Type 0) (whole : Bool) (o : Opening) (script : List Asked) (history : List Entry) : Type 0 where
  pub cut : EachCut script history
  pub runs : whole ≡ true → EachRuns script history
  pub agents : All (λ e. e.agent ≤ length script) history
  pub apart : IsToldApart tells o history
  pub legal : tells → Legal o history
  pub alone : tells → EachAlone o history

-- The image has these sizes, and stands for this map.
pub record IsImageOf (g : Geometry) (m : Map) (c : List ℕ) : Type 0 where
  pub built : Built
  pub reads : read_as New New c ≡ Ok (record { geometry = g; built = built })
  pub stands : filled (data_base g) c built ≡ m

-- The image stands for what is stored after the history's changes, or after a front of them that has all up to the last content, with what
-- a call in which the disk failed, and behind which nothing was stored, may have left in doubt.
pub record IsLeft (o : Opening) (history : List Entry) (c : List ℕ) : Type 0 where
  pub place : Option ℕ
  pub recent : IsRecent o history place
  pub shown : IsShown o (floor (changes o history)) (changes o history ++ doubted o history place) c

-- The images that a crash may have left since a disk was so: those of then, and fronts of the history; and from some moment on none lacks
-- what a close or a flush has stored.
pub record LeavesFronts {D : Type 0} (w : DiskWords D) (o : Opening) (history : List Entry) (begun now : D) : Type 0 where
  pub fronts : (t : ℕ) (c : List ℕ) → t ≤ w.moment begun → w.since now t c → w.since begun t c ⊎ IsShownOnce o 0 history c
  pub keeps : w.crashes → (n : ℕ) → IsContentAt (changes o history) n → IsKeptSince (w.moment now) (w.since now) o history n

-- A run over a disk that began so, and what it left: one history; where the end did not fail, an image that stands for all that the
-- history stored; else one that stands for a front of it; at each moment on the way a front, whether the disk failed or not; and no more
-- faults in the history than the disk's count has risen, one less where the end failed.
pub record IsRunOver {D : Type 0} (w : DiskWords D) (g : Geometry) (o : Opening) (script : List Asked) (begun : D) (run : Completion D) : Type 0 where
  pub history : IsHistoryOf w.tells run.whole o script run.history
  pub stands : OnOk run.done (w.tells → IsImageOf g (durable o (changes o run.history)) (w.content run.disk))
  pub left : w.tells → w.crashes → IsLeft o run.history (w.content run.disk)
  pub stops : w.tells → LeavesFronts w o run.history begun run.disk
  pub faults : RoseBy (disk_faults run.history) (w.faults begun) (w.faults run.disk)
  pub failed : OnErr run.done (RoseBy (disk_faults run.history + 1) (w.faults begun) (w.faults run.disk))

-- A map within the sizes of an image, and the agents of scripts.
abbrev pub opening_in : Geometry → Map → List Asked → Opening
opening_in g before script = opening_of before (limits_by g) script

-- A run over the image that a disk holds, with what that stood for.
pub record IsRunOn {D : Type 0} (w : DiskWords D) (script : List Asked) (old : D) (run : Completion D) : Type 0 where
  pub geometry : Geometry
  pub before : Map
  pub stood : w.tells → IsImageOf geometry before (w.content old)
  pub over : IsRunOver w geometry (opening_in geometry before script) script old run
