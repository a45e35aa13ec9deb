-- A call that reads bytes, step by step: syncRead and getFile. This project's own.
use Rattle.std.specs.Prelude.{◌≡◌, ℕ, ◌-◌, min, List, [], ◌++◌, length, Some, IsTrue}
use Rattle.opfs_base.specs.Places.{Place}
use Rattle.opfs_base.specs.Texts.{Text}
use Rattle.opfs_books.specs.Laws.Books.{Fixed}
use Rattle.opfs_data.specs.Calls.{Reads}
use Rattle.opfs_pages.specs.HistoryLaws.Handles.{AreHandlesWhole}
use Rattle.opfs_hist.specs.declared.entry.Entry.{Entry}
use Rattle.opfs_hist.specs.declared.op.Op.{Op}
use Rattle.opfs_hist.specs.declared.reply.Reply.TheVariants as reply
use Rattle.opfs_machine.specs.declared.own.Own.{Own}
use Rattle.opfs_machine.specs.declared.state.Sizes.{Sizes}
use Rattle.opfs_machine.specs.declared.state.State.{State}
use Rattle.opfs_machine.specs.Histories.{is_disk_op, state_after}
use Rattle.opfs_machine.specs.Replies.{bytes_at, file_reply, row_named}
use Rattle.opfs_machine.specs.Rows.{file_at}
use Rattle.opfs_outside.specs.Faults.{Rose}
use Rattle.opfs_outside.specs.declared.disk.Disk.{Ghosts as DiskWords}
use Rattle.opfs_pages.specs.Copies.{IsPageOf}
use Rattle.opfs_records.specs.Replay.Built.{Built}
use Rattle.opfs_splice.specs.Splicing.{window}
use Rattle.opfs_laws.specs.Steady.Steady.{row_bytes}
use Rattle.opfs_tree.specs.Rows.{file_at as file_in_tree}
use Rattle.opfs_tree.specs.declared.row.FileRow.{FileRow}
use Rattle.opfs_work.specs.Works.{WorkingCopy}
use Rattle.opfs_desk_steps.specs.Parts.Asked.{IsAsked}
use Rattle.opfs_desk_steps.specs.Parts.Held.{AreHeldWhole}
use Rattle.opfs_desk_steps.specs.Parts.Seen.{machine_in, tree_in}
use Rattle.opfs_desk_steps.specs.declared.parts.call.ReadyCall.{ReadyCall}
use Rattle.opfs_desk_steps.specs.declared.parts.parts.Ledger.{Ledger}
use Rattle.opfs_desk_steps.specs.declared.parts.parts.OpenPages.{OpenPages}
use Rattle.opfs_desk_steps.specs.declared.parts.parts.DeskParts.{DeskParts}
use Rattle.opfs_desk_bytes.specs.Reading.Files.{IsReadOfFile}
use Rattle.opfs_desk_bytes.specs.Reading.Words.{read_start, read_len, cursor_read}

-- Each page of each open access handle is one that the store tells, over parts that are kept.
pub record HaveWholeHandles {D : Type 0} (w : DiskWords D) (p : DeskParts D) : Type 0 where
  pub fixed : Fixed D
  pub recorded : Built
  pub are : AreHeldWhole w fixed recorded p.ledger p.pages
  pub whole : AreHandlesWhole fixed.opening p.ledger.books.history

-- What a call that reads begins with.
pub record BeginsRead {D : Type 0} (w : DiskWords D) (f : Fixed D) (recorded : Built) (l : Ledger D) (p : OpenPages) (calls : List Entry) (c : ReadyCall) (work : WorkingCopy) : Type 0 where
  pub held : AreHeldWhole w f recorded l p
  pub asked : IsAsked w.tells f.opening l.books.history calls l.books.state c work []

-- What was read of a row with these bytes: as many as there are, twice; the cursor behind them; and a page of it beside them. Where
-- the disk tells they are the row's.
pub record IsReadOf (tells : Type 0) (row_bytes : Text) (z : Sizes) (o : Op) (bytes copy : Text) (cursor beside : ℕ) (page : List ℕ) : Type 0 where
  pub size : length bytes ≡ min (read_len o) (z.size - read_start z o)
  pub told : tells → bytes ≡ window row_bytes (read_start z o) (read_len o)
  pub same : copy ≡ bytes
  pub cursor_is : cursor ≡ cursor_read z o
  pub page_is : tells → IsPageOf row_bytes beside page

-- The same of the row that a call names, once its agent's pending calls are taken in.
abbrev pub IsReadFor : {D : Type 0} → DiskWords D → DeskParts D → List Entry → ReadyCall → WorkingCopy → Text → Text → ℕ → ℕ → List ℕ → Type 0
IsReadFor {D} w p calls c work bytes copy cursor beside page =
    (f : Fixed D) (recorded : Built) → AreHeldWhole w f recorded p.ledger p.pages → IsAsked w.tells f.opening p.ledger.books.history calls p.ledger.books.state c work []
    → (row : Text) → row_bytes (state_after f.opening (p.ledger.books.history ++ calls)) c.agent (row_named c.op) ≡ Some row → IsReadOf w.tells row c.sizes c.op bytes copy cursor beside page

-- What was read of a file: as many bytes as there are, its size and its time stamp. Where the disk tells, and each page of each
-- access handle is one that the store tells, they are the file's.
pub record IsFileRead (tells whole : Type 0) (s : State Text Own) (place : Place) (bytes : Text) (size stamp : ℕ) : Type 0 where
  pub info : file_reply (file_at s place) ≡ reply.FileInfo size stamp
  pub long : length bytes ≡ length (bytes_at s place)
  pub told : tells → whole → bytes ≡ bytes_at s place

-- A file was read by its row in the tree, if it is there.
abbrev pub IsReadFrom : {D : Type 0} → DiskWords D → Ledger D → OpenPages → Place → Text → ℕ → ℕ → Type 0
IsReadFrom w l p place bytes size stamp = (found : FileRow) → file_in_tree place (tree_in l) ≡ Some found → IsReadOfFile w.tells (machine_in l) place found p.swap (w.content l.journal.disk) p.base bytes size stamp

-- The disk was read and failed: its count rose, and nothing else was changed. The call may fail so.
pub record HasFailedToRead {D : Type 0} (w : DiskWords D) (f : Fixed D) (recorded : Built) (start now : Ledger D) (before after : OpenPages) (calls : List Entry) (c : ReadyCall) (work : WorkingCopy) (past : List Text) : Type 0 where
  pub held : AreHeldWhole w f recorded start before
  pub are : AreHeldWhole w f recorded now after
  pub books : now.books ≡ start.books
  pub reads : Reads w start.journal now.journal
  pub asked : IsAsked w.tells f.opening start.books.history calls start.books.state c work past
  pub disk : IsTrue (is_disk_op (state_after f.opening (start.books.history ++ calls)) c.agent c.op)
  pub rose : Rose (w.faults start.journal.disk) (w.faults now.journal.disk)

-- Over parts that are kept.
pub record MayFailToRead {D : Type 0} (w : DiskWords D) (p : DeskParts D) (calls : List Entry) (c : ReadyCall) : Type 0 where
  pub fixed : Fixed D
  pub recorded : Built
  pub start : Ledger D
  pub before : OpenPages
  pub work : WorkingCopy
  pub past : List Text
  pub failed : HasFailedToRead w fixed recorded start p.ledger before p.pages calls c work past
