-- What the books of a run hold, and what is kept of them: the history, the images that a crash may leave, and the counts of
-- faults. This project's own.
use Rattle.std.specs.Prelude.{◌≡◌, ℕ, ◌+◌, ◌<◌, ◌≤◌, ◌^◌, ◌==◌, ◌&&◌, not, true, Bool, List, [], fold, map, count_by, Option, is_some}
use Rattle.opfs_base.specs.Texts.{Text}
use Rattle.opfs_codec.specs.declared.change.Format.TheVariants.{New}
use Rattle.opfs_commit.specs.Images.{Account, AreImages}
use Rattle.opfs_commit.specs.Seen.{KeptBack, committing}
use Rattle.opfs_commit.specs.Trail.{IsTrail}
use Rattle.opfs_hist.specs.Faults.{disk_faults}
use Rattle.opfs_hist.specs.declared.entry.Entry.{Entry}
use Rattle.opfs_laws.specs.Histories.Doubts.{doubted}
use Rattle.opfs_laws.specs.Histories.Opened.{IsOpenAt}
use Rattle.opfs_laws.specs.Histories.Unread.{unread_entry}
use Rattle.opfs_image.specs.Superblock.{area_bytes, areas_of, limits_by}
use Rattle.opfs_image.specs.declared.geometry.Geometry.{Geometry}
use Rattle.opfs_journal.specs.Seen.{Seen}
use Rattle.opfs_laws.specs.Whole.{IsWholeOpening}
use Rattle.opfs_laws.specs.Lengths.Outlines.{in_lengths_of}
use Rattle.opfs_machine.specs.declared.own.Outline.{Outline}
use Rattle.opfs_machine.specs.declared.own.Own.{Own}
use Rattle.opfs_machine.specs.declared.state.State.{State}
use Rattle.opfs_machine.specs.Changes.{changes}
use Rattle.opfs_machine.specs.Histories.{IsCall, evicted_by, state_after}
use Rattle.opfs_machine.specs.Openings.{Opening}
use Rattle.opfs_machine.specs.Steps.{evicted}
use Rattle.opfs_outside.specs.Faults.{Rose, RoseBy}
use Rattle.opfs_outside.specs.declared.disk.Disk.{Ghosts as DiskWords}
use Rattle.opfs_records.specs.Replay.Built.{Built, IsSound}
use Rattle.opfs_records.specs.Replay.Sums.{charge_of}
use Rattle.opfs_records.specs.Checkpoint.Written.{AreWritable}
use Rattle.opfs_base.specs.Measures.{is_root}
use Rattle.opfs_books.specs.Laws.Fronts.{IsRecent}

-- What never changes in a run: its opening as the machine has it, over the disk as it was then; the sizes of the image; and
-- that disk.
pub record Fixed (D : Type 0) : Type 0 where
  pub opening : Opening
  pub geometry : Geometry
  pub begun : D

-- The history; the machine in lengths that it leaves; the rows and persistent units as they are stored; what is kept back
-- of them; and the place of the entry, if it is one's, whose change is in doubt.
pub record Book : Type 0 where
  pub entries : List Entry
  pub machine : State ℕ Outline
  pub rows : Built
  pub back : KeptBack
  pub place : Option ℕ

-- A history whose whole groups leave a state, and after which these evictions stand, but for the bytes that reads gave; with
-- these too where the disk tells.
pub record IsToldAt (tells : Type 0) (o : Opening) (h : List Entry) (base : State Text Own) (gone : List Text) : Type 0 where
  pub real : List Entry
  pub opened : IsOpenAt o real base gone
  pub alike : map unread_entry h ≡ map unread_entry real
  pub told : tells → h ≡ real

-- A call may come now, after these evictions of its own: it is the machine's, but for the bytes of a read; with these too
-- where the disk tells.
pub record IsNext (tells : Type 0) (base : State Text Own) (gone : List Text) (e : Entry) : Type 0 where
  pub real : Entry
  pub call : IsCall base gone real
  pub alike : unread_entry e ≡ unread_entry real
  pub told : tells → e ≡ real

-- Each entry that tells of a disk fault has its own rise of the disk's count. A gate is in doubt only where that rose.
pub record AreCounted (begun now : ℕ) (h : List Entry) (in_doubt : Bool) : Type 0 where
  pub faults : RoseBy (disk_faults h) begun now
  pub fewer : begun ≤ now
  pub raised : in_doubt ≡ true → Rose begun now

-- How many calls there are, how many of them are an agent's, how many evictions, and how many roots.
abbrev pub is_eviction : Entry → Bool
is_eviction e = is_some (evicted_by e.op)

abbrev pub calls_of : ℕ → List Entry → ℕ
calls_of k h = count_by (λ e. not (is_eviction e) && (e.agent == k)) h

abbrev pub evictions : List Entry → ℕ
evictions h = count_by is_eviction h

abbrev pub calls : List Entry → ℕ
calls h = count_by (λ e. not (is_eviction e)) h

abbrev pub roots : Built → ℕ
roots b = count_by (λ e. is_root e.0) b.rows

-- Of 64 agents at most each has 60,000,002 entries at most; and each eviction took out a root that the opening or a call
-- had made.
pub record AreFew (h : List Entry) (rows : Built) : Type 0 where
  pub each : (k : ℕ) → calls_of k h ≤ 60000002
  pub agents : (k : ℕ) → 64 < k → calls_of k h ≡ 0
  pub none : calls_of 0 h ≡ 0
  pub gone : evictions h + roots rows ≤ 2 ^ 24 + calls h

-- An agent's call has a place in the history.
pub record IsPlaced (h : List Entry) (k : ℕ) : Type 0 where
  pub first : 1 ≤ k
  pub last : k ≤ 64
  pub rest : calls_of k h ≤ 60000001

-- What is stored can be written as a snapshot, and that has room in an area.
pub record HasRoom (g : Geometry) (rows : Built) : Type 0 where
  pub sound : IsSound g.blocks rows.rows
  pub writable : AreWritable rows.rows rows.persistent
  pub fits : charge_of New rows + 7 ≤ area_bytes g

-- What the images are spoken of by.
abbrev pub account_of : {D : Type 0} → Fixed D → Built → Book → Account
account_of f recorded b = record {
  opening = f.opening;
  geometry = f.geometry;
  told = changes f.opening b.entries;
  doubted = doubted f.opening b.entries b.place;
  recorded = recorded;
  rows = b.rows;
}

-- The books while a call is made: its evictions stand, and its entry does not.
pub record AreBooksAt {D : Type 0} (w : DiskWords D) (f : Fixed D) (recorded : Built) (base : State Text Own) (gone : List Text) (b : Book) (j : Seen D) : Type 0 where
  -- the run began whole, with the image's sizes and quota
  pub whole : IsWholeOpening f.opening
  pub limits : f.opening.limits ≡ limits_by f.geometry
  -- the history, and the machine that it leaves
  pub told : IsToldAt w.tells f.opening b.entries base gone
  pub machine : b.machine ≡ in_lengths_of (fold evicted base gone)
  pub few : AreFew b.entries b.rows
  -- the images, and the trail of a disk that never failed; behind the entry whose change may be in doubt nothing was stored
  pub images : w.tells → AreImages w (account_of f recorded b) (committing j b.back)
  pub trail : w.tells → (Rose (w.faults f.begun) (w.faults j.disk) → ⊥) → IsTrail w f.opening (changes f.opening b.entries) f.begun j.disk
  pub recent : IsRecent f.opening b.entries b.place
  -- the counts
  pub counted : AreCounted (w.faults f.begun) (w.faults j.disk) b.entries j.in_doubt
  -- room for what is to be written
  pub areas : j.areas ≡ areas_of f.geometry
  pub spare : b.back.room ≤ j.spare
  pub room : area_bytes f.geometry ≤ b.back.room
  pub stored : HasRoom f.geometry b.rows
  pub most : b.back.count < 64

-- The books between calls.
abbrev pub AreBooks : {D : Type 0} → DiskWords D → Fixed D → Built → Book → Seen D → Type 0
AreBooks w f recorded b j = AreBooksAt w f recorded (state_after f.opening b.entries) [] b j
