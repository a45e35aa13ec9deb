-- What is planned of a call that puts bytes into a row, before its agent's pending calls are taken in. This project's own.
use Rattle.std.specs.Prelude.{◌≡◌, ℕ, ◌/◌, ◌%◌, ◌^◌, ◌<◌, ◌≤◌, ◌++◌, false, List, length, map, fold, slice_index}
use Rattle.opfs_base.specs.Blocks.{blocks}
use Rattle.opfs_books.specs.Laws.Books.{Fixed}
use Rattle.opfs_books.specs.Laws.Laws.{LeavesPages}
use Rattle.opfs_desk_steps.specs.RowLaws.Puts.{size_put}
use Rattle.opfs_hist.specs.declared.entry.Entry.{Entry}
use Rattle.opfs_hist.specs.declared.op.Op.{Op}
use Rattle.opfs_machine.specs.declared.state.Sizes.{Sizes}
use Rattle.opfs_machine.specs.Replies.{row_named}
use Rattle.opfs_machine.specs.Runs.{eviction}
use Rattle.opfs_outside.specs.declared.disk.Disk.{Ghosts as DiskWords}
use Rattle.opfs_pages.specs.declared.writing.put.Put.{Put}
use Rattle.opfs_records.specs.Replay.Built.{Built}
use Rattle.opfs_state_rows.specs.Standing.Seen.{lines_of}
use Rattle.opfs_state.specs.Applied.{IsPrepared}
use Rattle.opfs_work.specs.Works.{WorkingCopy}
use Rattle.opfs_desk_steps.specs.Parts.Acted.{AreCleared}
use Rattle.opfs_desk_steps.specs.Parts.Held.{AreHeldWhole}
use Rattle.opfs_desk_steps.specs.Parts.Seen.{machine_in, tree_in, units_in}
use Rattle.opfs_desk_steps.specs.declared.parts.call.ReadyCall.{ReadyCall}
use Rattle.opfs_desk_steps.specs.declared.parts.parts.Ledger.{Ledger}
use Rattle.opfs_desk_steps.specs.declared.parts.parts.OpenPages.{OpenPages}
use Rattle.opfs_desk_steps.specs.declared.parts.parts.DeskParts.{DeskParts}
use Rattle.opfs_desk_steps.specs.Acting.{HasTaken}
use Rattle.opfs_desk_steps.specs.BookSteps.Clearing.{cleared_from}
use Rattle.opfs_desk_bytes.specs.Writing.Steps.{IsPlanned}
use Rattle.opfs_desk_bytes.specs.Writing.Words.{beside_put, bytes_put, counts_bytes, place_put, position_put, writes_bytes}
use Rattle.opfs_desk_bytes.specs.declared.writing.target.Target.{Target}

-- A target is that of a call.
pub record IsTargetOf (z : Sizes) (o : Op) (t : Target) : Type 0 where
  pub row : t.row ≡ row_named o
  pub at : t.at ≡ place_put z o
  pub size : t.size ≡ size_put z o
  pub position : t.position ≡ position_put z o
  pub beside : t.beside ≡ beside_put z o
  pub writes : t.writes ≡ writes_bytes o
  pub counts : t.counts ≡ counts_bytes o

-- All memory is there, and all reads are done: the pages stand ready, and the working copy has room for as many as it will have.
pub record IsPlan {D : Type 0} (w : DiskWords D) (p : DeskParts D) (c : ReadyCall) (work : WorkingCopy) (t : Target) (put : Put) (page : List ℕ) : Type 0 where
  pub target : IsTargetOf c.sizes c.op t
  pub small : size_put c.sizes c.op < 2 ^ 63
  pub pages : put.pages ≡ blocks (size_put c.sizes c.op)
  pub planned : IsPlanned w p c.agent (row_named c.op) put (bytes_put c.op)
  pub whole : length page ≡ 4096
  pub tail : (i : ℕ) → size_put c.sizes c.op ≤ i → i / 4096 ≡ beside_put c.sizes c.op / 4096 → slice_index page (i % 4096) ≡ 0
  pub room : blocks (size_put c.sizes c.op) ≤ work.room

-- Its agent's pending calls were taken in.
pub record HasTakenIn {D : Type 0} (w : DiskWords D) (f : Fixed D) (recorded : Built) (l mid : Ledger D) (p : OpenPages) (calls : List Entry) (c : ReadyCall) : Type 0 where
  pub taken : HasTaken l mid calls
  pub tree : tree_in mid ≡ tree_in l
  pub held : AreHeldWhole w f recorded mid p
  pub prepared : IsPrepared mid.books.state c.agent c.op

-- Its units were cleared, and no gate is in doubt. Bytes outside the areas stay.
pub record HasClearedWay {D : Type 0} (w : DiskWords D) (f : Fixed D) (mid back : Ledger D) (p : OpenPages) (c : ReadyCall) : Type 0 where
  pub entries : back.books.history ≡ mid.books.history ++ map eviction (units_in c.clearing.items)
  pub tree : tree_in back ≡ fold cleared_from (tree_in mid) (units_in c.clearing.items)
  pub lines : lines_of (tree_in back) ≡ (machine_in back).rows
  pub prepared : IsPrepared back.books.state c.agent c.op
  pub sure : back.journal.in_doubt ≡ false
  pub leaves : LeavesPages w mid.journal back.journal
  pub cleared : AreCleared w f (units_in c.clearing.items) mid back p
