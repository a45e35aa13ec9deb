-- Pages of a row that a call puts, once its units are cleared: they get their blocks, and are written. This project's own.
use Rattle.std.specs.Prelude.{◌≡◌, ℕ, ◌+◌, ◌*◌, ◌^◌, ◌<◌, ◌≤◌, false, List, length}
use Rattle.std.specs.Vec.{vec_capacity}
use Rattle.opfs_base.specs.Texts.{Text}
use Rattle.opfs_books.specs.Laws.Books.{Fixed, AreBooksAt}
use Rattle.opfs_books.specs.Laws.Laws.{LeavesPages, ShowsTold, told}
use Rattle.opfs_data.specs.Writes.{HasBytes}
use Rattle.opfs_machine.specs.declared.own.Own.{Own}
use Rattle.opfs_machine.specs.declared.state.State.{State}
use Rattle.opfs_outside.specs.Faults.{Rose}
use Rattle.opfs_outside.specs.Moments.{Elapses}
use Rattle.opfs_outside.specs.declared.disk.Disk.{Ghosts as DiskWords}
use Rattle.opfs_pages.specs.Writing.Puts.{IsReady, IsPut, all_writes}
use Rattle.opfs_pages.specs.declared.writing.put.Put.{Put}
use Rattle.opfs_records.specs.Replay.Built.{Built}
use Rattle.opfs_pages.specs.RowCalls.Plans.{shelf, AreGotten, HaveBlocks}
use Rattle.opfs_space.specs.Room.{Machine, HasRoom}
use Rattle.opfs_state_rows.specs.Standing.Seen.{lines_of}
use Rattle.opfs_desk_steps.specs.Parts.Held.{AreTied, AreHeldAt}
use Rattle.opfs_desk_steps.specs.Parts.Seen.{machine_in, tree_in, book_in}
use Rattle.opfs_desk_steps.specs.declared.parts.parts.Ledger.{Ledger}
use Rattle.opfs_desk_steps.specs.declared.parts.parts.DeskParts.{DeskParts}

-- Blocks are kept for so many pages of a row, and the pool has room for them.
pub record HasRoomFor (m : Machine) (agent row pages : ℕ) : Type 0 where
  pub reserve : ℕ
  pub need : ℕ
  pub room : HasRoom m agent row reserve need
  pub within : pages ≤ reserve

-- The data part lies on the disk, and its blocks are few.
pub record LiesOnDisk {D : Type 0} (w : DiskWords D) (p : DeskParts D) : Type 0 where
  pub start : p.pages.base < 2 ^ 63
  pub end : p.pages.base + 4096 * length p.pages.space.used ≤ w.size p.ledger.journal.disk
  pub few : length p.pages.space.used ≤ 2 ^ 32

-- A put stands ready for a row, over parts that are kept while no gate is in doubt: all memory is there, and room for its blocks.
pub record IsToPut {D : Type 0} (w : DiskWords D) (f : Fixed D) (recorded : Built) (base : State Text Own) (gone : List Text) (p : DeskParts D) (agent row : ℕ) (put : Put) (given : List ℕ) : Type 0 where
  pub are : AreHeldAt w f recorded base gone p.ledger p.pages
  pub settled : p.ledger.journal.in_doubt ≡ false
  pub lies : LiesOnDisk w p
  pub lines : lines_of (tree_in p.ledger) ≡ (machine_in p.ledger).rows
  pub ready : IsReady w.tells (w.content p.ledger.journal.disk) p.pages.base p.pages.swap agent row put.pages put.writes put.moves (vec_capacity put.extents)
  pub bytes : HasBytes put.writes given
  pub room : HasRoomFor (machine_in p.ledger) agent row put.pages

-- Its pages have their blocks, or wait for them; or all have them.
abbrev pub AreGottenIn : {D : Type 0} → DiskWords D → Built → DeskParts D → ℕ → ℕ → Put → List ℕ → Type 0
AreGottenIn w recorded p agent row put given =
    AreGotten put.taken (machine_in p.ledger) (shelf recorded.rows (tree_in p.ledger) p.pages.swap) p.pages.space p.pages.base (w.size p.ledger.journal.disk) agent row put.pages put.writes given put.extents.items

abbrev pub HaveBlocksIn : {D : Type 0} → DiskWords D → DeskParts D → ℕ → ℕ → Put → List ℕ → Type 0
HaveBlocksIn w p agent row put given = HaveBlocks p.pages.base (w.size p.ledger.journal.disk) p.pages.swap p.pages.space agent row put.pages put.writes given put.extents.items

-- Over some such parts.
pub record MayFindRoom {D : Type 0} (w : DiskWords D) (p : DeskParts D) (agent row : ℕ) (put : Put) (given : List ℕ) : Type 0 where
  pub fixed : Fixed D
  pub recorded : Built
  pub base : State Text Own
  pub gone : List Text
  pub to_put : IsToPut w fixed recorded base gone p agent row put given
  pub gotten : AreGottenIn w recorded p agent row put given

pub record MayWrite {D : Type 0} (w : DiskWords D) (p : DeskParts D) (agent row : ℕ) (put : Put) (given : List ℕ) : Type 0 where
  pub fixed : Fixed D
  pub recorded : Built
  pub base : State Text Own
  pub gone : List Text
  pub to_put : IsToPut w fixed recorded base gone p agent row put given
  pub have : HaveBlocksIn w p agent row put given

-- The disk was used, or was not: its count and its moments go on, and each image on the way shows a front of what is told.
pub record IsUsed {D : Type 0} (w : DiskWords D) (f : Fixed D) (old new : Ledger D) : Type 0 where
  pub later : w.faults old.journal.disk ≤ w.faults new.journal.disk
  pub time : w.tells → Elapses w.moment w.since old.journal.disk new.journal.disk
  pub shown : ShowsTold w f (book_in old) (told f (book_in old)) old.journal new.journal

-- All pages have blocks: what was kept back may have been committed for them.
pub record HasFound {D : Type 0} (w : DiskWords D) (f : Fixed D) (base : State Text Own) (gone : List Text) (old new : DeskParts D) (agent row : ℕ) (before after : Put) (given : List ℕ) : Type 0 where
  pub recorded : Built
  pub to_put : IsToPut w f recorded base gone new agent row after given
  pub have : HaveBlocksIn w new agent row after given
  pub history : new.ledger.books.history ≡ old.ledger.books.history
  pub state : new.ledger.books.state ≡ old.ledger.books.state
  pub swap : new.pages.swap ≡ old.pages.swap
  pub base_is : new.pages.base ≡ old.pages.base
  pub writes : after.writes ≡ before.writes
  pub count : after.pages ≡ before.pages
  pub leaves : LeavesPages w old.ledger.journal new.ledger.journal
  pub used : IsUsed w f old.ledger new.ledger

-- The disk failed: the parts are kept as they were, but for where bytes lie.
pub record HasNotPut {D : Type 0} (w : DiskWords D) (f : Fixed D) (base : State Text Own) (gone : List Text) (old new : DeskParts D) : Type 0 where
  pub recorded : Built
  pub are : AreHeldAt w f recorded base gone new.ledger new.pages
  pub history : new.ledger.books.history ≡ old.ledger.books.history
  pub state : new.ledger.books.state ≡ old.ledger.books.state
  pub rose : Rose (w.faults old.ledger.journal.disk) (w.faults new.ledger.journal.disk)
  pub used : IsUsed w f old.ledger new.ledger

-- The pages were written into their blocks. The books are kept.
pub record HasWritten {D : Type 0} (w : DiskWords D) (f : Fixed D) (recorded : Built) (base : State Text Own) (gone : List Text) (old new : DeskParts D) (agent row : ℕ) (put : Put) (given : List ℕ) : Type 0 where
  pub books : AreBooksAt w f recorded base gone (book_in new.ledger) new.ledger.journal
  pub tied : AreTied w f new.ledger new.pages
  pub put_is : IsPut w.tells old.pages.base (w.content old.ledger.journal.disk) (w.content new.ledger.journal.disk) old.pages.swap new.pages.swap agent row put.pages (all_writes put.writes given put.extents.items)
  pub same : new.ledger.books ≡ old.ledger.books
  pub space : new.pages.space ≡ old.pages.space
  pub base_is : new.pages.base ≡ old.pages.base
  pub used : IsUsed w f old.ledger new.ledger

-- All of it.
pub record HasPutPages {D : Type 0} (w : DiskWords D) (f : Fixed D) (base : State Text Own) (gone : List Text) (old new : DeskParts D) (agent row : ℕ) (put : Put) (given : List ℕ) : Type 0 where
  pub mid : DeskParts D
  pub with_blocks : Put
  pub found : HasFound w f base gone old mid agent row put with_blocks given
  pub written : HasWritten w f found.recorded base gone mid new agent row with_blocks given
