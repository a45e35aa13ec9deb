-- Pages of a row that are put as its content, over parts that are kept. This project's own.
use Rattle.std.specs.Prelude.{◌≡◌, ℕ, ◌≤◌, ◌<◌, true, false, List, [], length, Some}
use Rattle.std.specs.Vec.{vec_capacity}
use Rattle.opfs_base.specs.Texts.{Text}
use Rattle.opfs_base.specs.Blocks.{blocks}
use Rattle.opfs_books.specs.Laws.Books.{Fixed}
use Rattle.opfs_data.specs.Pages.{page_of}
use Rattle.opfs_data.specs.Rows.{Rows, page_at}
use Rattle.opfs_data.specs.Writes.{HasBytes, WriteList}
use Rattle.opfs_machine.specs.declared.own.Outline.{Outline}
use Rattle.opfs_machine.specs.Agents.{agent_of, own_of}
use Rattle.opfs_machine.specs.Histories.{state_after}
use Rattle.opfs_machine.specs.Sums.{reserve_of}
use Rattle.opfs_outside.specs.declared.disk.Disk.{Ghosts as DiskWords}
use Rattle.opfs_pages.specs.Copies.{IsBegun}
use Rattle.opfs_pages.specs.Writing.Puts.{IsReady as IsPutReady}
use Rattle.opfs_pages.specs.declared.writing.put.Put.{Put}
use Rattle.opfs_records.specs.Replay.Built.{Built}
use Rattle.opfs_pages.specs.RowCalls.Plans.{AreGotten, HaveBlocks, IsStagedFor}
use Rattle.opfs_pages.specs.RowCalls.Rows.{Change, ArePlain, IsPutOf}
use Rattle.opfs_laws.specs.Steady.Steady.{row_bytes}
use Rattle.opfs_tree.specs.Rows.{Rows as Tree}
use Rattle.opfs_work.specs.Works.{WorkingCopy}
use Rattle.opfs_desk_steps.specs.Parts.Held.{AreHeldWhole}
use Rattle.opfs_desk_steps.specs.Parts.Seen.{machine_in, shelf_in}
use Rattle.opfs_desk_steps.specs.declared.parts.parts.Ledger.{Ledger}
use Rattle.opfs_desk_steps.specs.declared.parts.parts.OpenPages.{OpenPages}
use Rattle.opfs_desk_steps.specs.declared.parts.parts.DeskParts.{DeskParts}

-- All of a row of so many bytes is to be stored.
abbrev pub all_of : ℕ → Change
all_of size = record { at = 0; given = []; size = size; whole = true }

-- All pages of a row are staged, over parts as they are.
abbrev pub IsStagedWhole : {D : Type 0} → DiskWords D → DeskParts D → ℕ → ℕ → WorkingCopy → WriteList → Type 0
IsStagedWhole w p k n work writes = IsStagedFor w.tells work (w.content p.ledger.journal.disk) p.pages.base p.pages.swap k n 0 [] work.length true writes

-- Pages of a row are ready to be put; they have their blocks, or wait for them.
pub record IsReadyToPut {D : Type 0} (w : DiskWords D) (recorded : Tree) (l : Ledger D) (p : OpenPages) (agent row : ℕ) (put : Put) : Type 0 where
  pub ready : IsPutReady w.tells (w.content l.journal.disk) p.base p.swap agent row put.pages put.writes put.moves (vec_capacity put.extents)
  pub bytes : HasBytes put.writes []
  pub gotten : AreGotten put.taken (machine_in l) (shelf_in recorded l p) p.space p.base (w.size l.journal.disk) agent row put.pages put.writes [] put.extents.items

-- The row is open, and at least as many blocks are kept for it as it has pages.
pub record KeepsEnough {D : Type 0} (l : Ledger D) (agent row pages : ℕ) : Type 0 where
  pub own : Outline
  pub there : own_of (agent_of (machine_in l) agent) row ≡ Some own
  pub within : pages ≤ reserve_of own

-- They may be put, over parts that are kept.
pub record MayPut {D : Type 0} (w : DiskWords D) (p : DeskParts D) (agent row : ℕ) (put : Put) : Type 0 where
  pub fixed : Fixed D
  pub recorded : Built
  pub are : AreHeldWhole w fixed recorded p.ledger p.pages
  pub ready : IsReadyToPut w recorded.rows p.ledger p.pages agent row put
  pub enough : KeepsEnough p.ledger agent row put.pages

-- They may be written now, while no gate is in doubt: they have their blocks.
pub record MayWrite {D : Type 0} (w : DiskWords D) (p : DeskParts D) (agent row : ℕ) (put : Put) : Type 0 where
  pub fixed : Fixed D
  pub recorded : Built
  pub are : AreHeldWhole w fixed recorded p.ledger p.pages
  pub settled : p.ledger.journal.in_doubt ≡ false
  pub ready : IsPutReady w.tells (w.content p.ledger.journal.disk) p.pages.base p.pages.swap agent row put.pages put.writes put.moves (vec_capacity put.extents)
  pub bytes : HasBytes put.writes []
  pub blocks : HaveBlocks p.pages.base (w.size p.ledger.journal.disk) p.pages.swap p.pages.space agent row put.pages put.writes [] put.extents.items
  pub enough : KeepsEnough p.ledger agent row put.pages

-- Each page of a row has a block, and they begin as these bytes where the disk tells.
pub record HasContent (tells : Type 0) (base : ℕ) (c : List ℕ) (swap : Rows) (agent row pages : ℕ) (bytes : Text) : Type 0 where
  pub plain : ArePlain swap agent row pages
  pub told : tells → (i : ℕ) → i < pages → IsBegun bytes i (page_of c base (page_at agent row i swap))

-- They are those of a row with these bytes, as its working copy and the store had them.
pub record IsRowToPut {D : Type 0} (w : DiskWords D) (f : Fixed D) (l : Ledger D) (p : OpenPages) (agent row : ℕ) (put : Put) (work : WorkingCopy) (bytes : Text) : Type 0 where
  pub of_row : IsPutOf w.tells work (w.content l.journal.disk) p.base p.swap agent row (all_of work.length) put.writes bytes bytes
  pub its_bytes : row_bytes (state_after f.opening l.books.history) agent row ≡ Some bytes
  pub size : work.length ≡ length bytes
  pub count : put.pages ≡ blocks work.length
