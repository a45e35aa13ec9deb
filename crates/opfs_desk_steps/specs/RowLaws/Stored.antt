-- Where the bytes of a file are that were last stored for good, over parts that are kept. This project's own.
use Rattle.std.specs.Prelude.{◌≡◌, List, [], ◌++◌, map, fold, length, Some}
use Rattle.opfs_base.specs.Places.{Place}
use Rattle.opfs_base.specs.Texts.{Text}
use Rattle.opfs_books.specs.Laws.Books.{Fixed}
use Rattle.opfs_data.specs.Places.{bytes_of}
use Rattle.opfs_hist.specs.declared.entry.Entry.{Entry}
use Rattle.opfs_laws.specs.Histories.Unread.{IsTold}
use Rattle.opfs_machine.specs.declared.own.Own.{Own}
use Rattle.opfs_machine.specs.declared.state.FileRow.{FileRow as File}
use Rattle.opfs_machine.specs.declared.state.State.{State}
use Rattle.opfs_machine.specs.Histories.{state_after}
use Rattle.opfs_machine.specs.Openings.{Opening}
use Rattle.opfs_machine.specs.Runs.{eviction}
use Rattle.opfs_machine.specs.Steps.{evicted}
use Rattle.opfs_machine.specs.Rows.{file_at}
use Rattle.opfs_outside.specs.declared.disk.Disk.{Ghosts as DiskWords}
use Rattle.opfs_records.specs.Replay.Built.{Built, IsSoundFile}
use Rattle.opfs_records.specs.Checkpoint.Written.{stored_file}
use Rattle.opfs_state_rows.specs.Standing.Seen.{lines_of}
use Rattle.opfs_tree.specs.declared.row.FileRow.{FileRow}
use Rattle.opfs_tree.specs.Rows.{file_at as file_in_tree}
use Rattle.opfs_desk_steps.specs.Parts.Held.{AreHeldAt, AreHeldWhole}
use Rattle.opfs_desk_steps.specs.Parts.Seen.{machine_in, tree_in}
use Rattle.opfs_desk_steps.specs.declared.parts.parts.Ledger.{Ledger}
use Rattle.opfs_desk_steps.specs.declared.parts.parts.OpenPages.{OpenPages}

-- The tree has the file, with as many bytes and blocks enough for them. Where the disk tells, these blocks have its bytes.
pub record IsStoredAt {D : Type 0} (w : DiskWords D) (f : Fixed D) (l : Ledger D) (p : OpenPages) (place : Place) (x : File Text) : Type 0 where
  pub row : FileRow
  pub there : file_in_tree place (tree_in l) ≡ Some row
  pub size : row.length ≡ length x.durable
  pub present : row.present ≡ length x.present
  pub sound : IsSoundFile f.geometry.blocks (stored_file row)
  pub bytes : w.tells → bytes_of (w.content l.journal.disk) p.base row.extents row.length ≡ x.durable

-- A history that stands for a state, and behind it these evictions of a call.
pub record HasCleared (tells : Type 0) (o : Opening) (h : List Entry) (base : State Text Own) (gone : List Text) : Type 0 where
  pub front : List Entry
  pub told : IsTold tells o front
  pub state : state_after o front ≡ base
  pub grown : h ≡ front ++ map eviction gone

abbrev pub FilesAreStored : {D : Type 0} → DiskWords D → Type 0
FilesAreStored {D} w =
    (f : Fixed D) (recorded : Built) (base : State Text Own) (gone : List Text) (l : Ledger D) (p : OpenPages) → AreHeldAt w f recorded base gone l p → HasCleared w.tells f.opening l.books.history base gone
    → lines_of (tree_in l) ≡ (machine_in l).rows → (place : Place) (x : File Text) → file_at (fold evicted base gone) place ≡ Some x → IsStoredAt w f l p place x

-- Between calls nothing is cleared.
abbrev pub HistoriesAreCleared : {D : Type 0} → DiskWords D → Type 0
HistoriesAreCleared {D} w = (f : Fixed D) (recorded : Built) (l : Ledger D) (p : OpenPages) → AreHeldWhole w f recorded l p → HasCleared w.tells f.opening l.books.history (state_after f.opening l.books.history) []
