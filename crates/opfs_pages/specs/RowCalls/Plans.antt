-- Pages of a row that a call puts: planned, with memory, and with blocks where these were free. This project's own.
use Rattle.std.specs.Prelude.{◌≡◌, ℕ, Bool, true, false, List, []}
use Rattle.opfs_base.specs.declared.extents.Extent.{Extent}
use Rattle.opfs_blocks.specs.Sets.{Used}
use Rattle.opfs_data.specs.Rows.{Rows, pages_at}
use Rattle.opfs_data.specs.Writes.{WriteList, page_writes, page_moves}
use Rattle.opfs_pages.specs.HistoryLaws.Spaced.{Shelf, AreHolders}
use Rattle.opfs_pages.specs.Stages.{IsStaged}
use Rattle.opfs_pages.specs.Writing.Puts.{IsPlaced, IsTaken, all_writes}
use Rattle.opfs_space.specs.Holders.{Holders, AreMine}
use Rattle.opfs_space.specs.Plans.{ArePlanned}
use Rattle.opfs_space.specs.Room.{Machine, IsExact}
use Rattle.opfs_space.specs.Spaces.{SpaceSeen}
use Rattle.opfs_tree.specs.Rows.{Rows as Tree}
use Rattle.opfs_work.specs.Works.{WorkingCopy}

abbrev pub shelf : Tree → Tree → Rows → Shelf
shelf recorded tree swap = record { recorded = recorded; tree = tree; swap = swap }

-- The blocks that one page of a row alone has are known exactly.
abbrev pub KnowsOwn : Machine → Shelf → Used → ℕ → ℕ → Type 0
KnowsOwn m s own agent row = (h : Holders) → AreHolders m s h → IsExact h own agent row

-- The pages of a call were staged by own blocks and pages that are those of the row, and by the content that the disk has.
pub record IsStagedFor (tells : Type 0) (work : WorkingCopy) (c : List ℕ) (base : ℕ) (swap : Rows) (agent row at : ℕ) (given : List ℕ) (size : ℕ) (whole : Bool) (w : WriteList) : Type 0 where
  pub own : Used
  pub from : Rows
  pub content : List ℕ
  pub same : pages_at agent row from ≡ pages_at agent row swap
  pub alike : tells → content ≡ c
  pub staged : IsStaged tells (record { own = own; swap = from; agent = agent; row = row; work = work; content = content; base = base; at = at; given = given; size = size; whole = whole }) w

-- The pages have blocks into which they may be written.
pub record HaveBlocks (base end : ℕ) (swap : Rows) (space : SpaceSeen) (agent row pages : ℕ) (w : WriteList) (given : List ℕ) (extents : List Extent) : Type 0 where
  pub placed : IsPlaced base end swap agent row pages w given extents
  pub mine : AreMine space.used space.own swap agent row pages (all_writes w given extents)

-- The pages wait for blocks: which of them want one is known exactly.
pub record WaitForBlocks (m : Machine) (s : Shelf) (space : SpaceSeen) (agent row pages : ℕ) (w : WriteList) (given : List ℕ) (extents : List Extent) : Type 0 where
  pub none : extents ≡ []
  pub planned : ArePlanned space.own s.swap agent row pages (page_writes w given) (page_moves w given)
  pub exact : KnowsOwn m s space.own agent row

abbrev pub AreGotten : Bool → Machine → Shelf → SpaceSeen → ℕ → ℕ → ℕ → ℕ → ℕ → WriteList → List ℕ → List Extent → Type 0
AreGotten true m s space base end agent row pages w given extents = HaveBlocks base end s.swap space agent row pages w given extents
AreGotten false m s space base end agent row pages w given extents = WaitForBlocks m s space agent row pages w given extents

-- So many free blocks were taken, or none because too few are free.
abbrev pub HasTaken : Bool → SpaceSeen → SpaceSeen → ℕ → List Extent → Type 0
HasTaken true old new count extents = IsTaken old new count extents
HasTaken false old new count extents = (new ≡ old) × (extents ≡ [])
