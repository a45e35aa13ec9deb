-- Blocks that are found for pages that wait for them. This project's own.
use Rattle.std.specs.Prelude.{◌≡◌, ℕ, ◌+◌, ◌*◌, ◌^◌, ◌≤◌, true, List, length, sum_by}
use Rattle.std.specs.Vec.{vec_capacity}
use Rattle.opfs_blocks.specs.Sets.{AreBelow}
use Rattle.opfs_data.specs.Rows.{Rows}
use Rattle.opfs_data.specs.Writes.{page_moves}
use Rattle.opfs_machine.specs.Contents.{in_lengths}
use Rattle.opfs_machine.specs.Sums.{durable_blocks}
use Rattle.opfs_pages.specs.HistoryLaws.Spaced.{AreSpaced}
use Rattle.opfs_pages.specs.RowCalls.Plans.{shelf, WaitForBlocks, HaveBlocks}
use Rattle.opfs_pages.specs.declared.writing.put.Put.{Put}
use Rattle.opfs_records.specs.Replay.Built.{named, has_block}
use Rattle.opfs_space.specs.Holders.{AreAllBelow}
use Rattle.opfs_space.specs.Room.{Machine, HasRoom}
use Rattle.opfs_space.specs.Spaces.{SpaceSeen}
use Rattle.opfs_tree.specs.Rows.{Rows as Tree}

-- All blocks that recorded rows name are named by the tree's.
abbrev pub AreNamedIn : Tree → Tree → Type 0
AreNamedIn recorded tree = (b : ℕ) → has_block (named recorded) b ≡ true → has_block (named tree) b ≡ true

-- Blocks may be found for a put that waits: the machine has room for what the row is to keep, nothing is kept back, the rows are
-- those of the machine, and all blocks are below the number of blocks.
pub record MayFindBlocks (tree : Tree) (swap : Rows) (space : SpaceSeen) (agent row : ℕ) (put : Put) : Type 0 where
  pub machine : Machine
  pub recorded : Tree
  pub given : List ℕ
  pub reserve : ℕ
  pub need : ℕ
  pub files : AreBelow (length space.used) (named tree)
  pub pages : AreAllBelow (length space.used) swap
  pub spaced : AreSpaced machine (shelf recorded tree swap) space
  pub settled : AreNamedIn recorded tree
  pub waits : WaitForBlocks machine (shelf recorded tree swap) space agent row put.pages put.writes given put.extents.items
  pub room : HasRoom machine agent row reserve need
  pub within : put.pages ≤ reserve
  pub blocks : length (named tree) ≡ sum_by (λ e. durable_blocks in_lengths e.1) machine.rows
  pub count : length (page_moves put.writes given) ≡ put.moves
  pub runs : put.moves ≤ vec_capacity put.extents

-- They were found: who has which block stays right, and all pages that waited have one; the put's pages are the same.
pub record HasFoundBlocks (tree : Tree) (swap : Rows) (space new : SpaceSeen) (agent row : ℕ) (put made : Put) : Type 0 where
  pub spaced : (m : Machine) (recorded : Tree) → AreNamedIn recorded tree → AreSpaced m (shelf recorded tree swap) space → AreSpaced m (shelf recorded tree swap) new
  pub gotten : (m : Machine) (recorded : Tree) (given : List ℕ) (base end : ℕ) → AreNamedIn recorded tree
      → AreSpaced m (shelf recorded tree swap) space → length (page_moves put.writes given) ≡ put.moves
      → WaitForBlocks m (shelf recorded tree swap) space agent row put.pages put.writes given put.extents.items
      → base + 4096 * length space.used ≤ end → length space.used ≤ 2 ^ 32
      → HaveBlocks base end swap new agent row made.pages made.writes given made.extents.items
  pub writes : made.writes ≡ put.writes
  pub moves : made.moves ≡ put.moves
  pub count : made.pages ≡ put.pages
  pub capacity : vec_capacity put.extents ≤ vec_capacity made.extents
