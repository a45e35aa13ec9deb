-- What is planned of a row's pages before a call writes them. This project's own.
use Rattle.std.specs.Prelude.{◌≡◌, ℕ, ◌+◌, ◌*◌, ◌/◌, ◌%◌, ◌^◌, ◌<◌, ◌≤◌, true, List, length, slice_index, is_some}
use Rattle.std.specs.List.{AllByRecursion}
use Rattle.std.specs.Vec.{vec_capacity}
use Rattle.opfs_base.specs.Blocks.{blocks}
use Rattle.opfs_blocks.specs.Sets.{AreBelow}
use Rattle.opfs_data.specs.Calls.{Reads}
use Rattle.opfs_data.specs.Pages.{LiesIn}
use Rattle.opfs_data.specs.Rows.{Rows, row_of, pages_at}
use Rattle.opfs_journal.specs.Seen.{Seen}
use Rattle.opfs_outside.specs.declared.disk.Disk.{Ghosts as DiskWords}
use Rattle.opfs_pages.specs.Copies.{IsCopy, AreHeld, IsPageOf}
use Rattle.opfs_pages.specs.HistoryLaws.Spaced.{AreSpaced}
use Rattle.opfs_pages.specs.RowCalls.Plans.{shelf, IsStagedFor, AreGotten}
use Rattle.opfs_pages.specs.Stages.{changed, IsReady}
use Rattle.opfs_pages.specs.Writing.Puts.{HasSamePages, IsReady as IsPutReady}
use Rattle.opfs_pages.specs.declared.row_calls.call.Planned.{Planned}
use Rattle.opfs_pages.specs.declared.row_put.PagePut.{PagePut}
use Rattle.opfs_pages.specs.declared.row_put.Planning.{Planning}
use Rattle.opfs_pages.specs.declared.writing.put.Put.{Put}
use Rattle.opfs_records.specs.Replay.Built.{named}
use Rattle.opfs_space.specs.Room.{Machine}
use Rattle.opfs_space.specs.Spaces.{SpaceSeen}
use Rattle.opfs_tree.specs.Rows.{Rows as Tree}
use Rattle.opfs_work.specs.Works.{WorkingCopy}

-- The pages of all rows, the data blocks and the journal, at one moment.
pub record PagesSeen (D : Type 0) : Type 0 where
  pub swap : Rows
  pub space : SpaceSeen
  pub journal : Seen D

abbrev pub pages_seen : {D : Type 0} → Rows → SpaceSeen → Seen D → PagesSeen D
pages_seen swap space journal = record { swap = swap; space = space; journal = journal }

-- The rows of the tree that a put is planned over.
abbrev pub tree_of : Planning → Tree
tree_of planning = planning.tree.now.rows

-- What a call puts may be planned: its bytes end within its size, which is small; its row is there, with pages that lie on the disk
-- and that may be staged; and the tree's blocks are below the number of blocks.
pub record MayPlan {D : Type 0} (w : DiskWords D) (planning : Planning) (wanted : PagePut) (work : WorkingCopy) (p : PagesSeen D) : Type 0 where
  pub size : wanted.size < 2 ^ 63
  pub stays : wanted.at + length wanted.given.now ≤ wanted.size
  pub there : is_some (row_of wanted.agent wanted.row p.swap) ≡ true
  pub lies : AllByRecursion (λ page. LiesIn planning.base (w.size p.journal.disk) page.block) (pages_at wanted.agent wanted.row p.swap)
  pub ready : IsReady work p.swap p.space wanted.agent wanted.row planning.base (w.size p.journal.disk) p.journal.areas
  pub files : AreBelow (length p.space.used) (named (tree_of planning))

-- Whatever comes of it, the rows have the pages of before, the disk was only read, and who has which block stays right.
pub record LeavesPlanned {D : Type 0} (w : DiskWords D) (planning : Planning) (wanted : PagePut) (p q : PagesSeen D) : Type 0 where
  pub pages : HasSamePages wanted.agent wanted.row p.swap q.swap
  pub reads : Reads w p.journal q.journal
  pub spaced : (m : Machine) (recorded : Tree) → AreSpaced m (shelf recorded (tree_of planning) p.swap) p.space → AreSpaced m (shelf recorded (tree_of planning) q.swap) q.space

-- The pages are staged and ready to be put; they have their blocks, or wait for them.
pub record IsPutPlanned {D : Type 0} (w : DiskWords D) (planning : Planning) (wanted : PagePut) (work : WorkingCopy) (p q : PagesSeen D) (put : Put) : Type 0 where
  pub staged : IsStagedFor w.tells work (w.content p.journal.disk) planning.base p.swap wanted.agent wanted.row wanted.at wanted.given.now wanted.size wanted.whole put.writes
  pub ready : IsPutReady w.tells (w.content q.journal.disk) planning.base q.swap wanted.agent wanted.row (blocks wanted.size) put.writes put.moves (vec_capacity put.extents)
  pub count : put.pages ≡ blocks wanted.size
  pub gotten : (m : Machine) (recorded : Tree) → AreSpaced m (shelf recorded (tree_of planning) p.swap) p.space → planning.base + 4096 * length p.space.used ≤ w.size p.journal.disk → length p.space.used ≤ 2 ^ 32
      → AreGotten put.taken m (shelf recorded (tree_of planning) q.swap) q.space planning.base (w.size p.journal.disk) wanted.agent wanted.row (blocks wanted.size) put.writes wanted.given.now put.extents.items

-- The page of a position as the call leaves it, with zeros behind its size.
pub record IsPageLeft (tells : Type 0) (planning : Planning) (wanted : PagePut) (position : ℕ) (work : WorkingCopy) (content : List ℕ) (swap : Rows) (found : List ℕ) : Type 0 where
  pub page : tells → (bytes : List ℕ) → IsCopy bytes work → AreHeld bytes work content planning.base (pages_at wanted.agent wanted.row swap) → IsPageOf (changed bytes wanted.at wanted.given.now wanted.size) (position / 4096) found
  pub whole : length found ≡ 4096
  pub tail : (i : ℕ) → wanted.size ≤ i → i / 4096 ≡ position / 4096 → slice_index found (i % 4096) ≡ 0

-- A call's pages are planned, its working copy has room for them, and the page of its position is read.
pub record IsCallPlanned {D : Type 0} (w : DiskWords D) (planning : Planning) (wanted : PagePut) (position : ℕ) (work left : WorkingCopy) (p q : PagesSeen D) (made : Planned) : Type 0 where
  pub put : IsPutPlanned w planning wanted left p q made.put
  pub room : blocks wanted.size ≤ left.room
  pub page : IsPageLeft w.tells planning wanted position work (w.content p.journal.disk) p.swap made.page.items
