-- The calls that open a row, over parts that are kept: createWritable and createSyncAccessHandle. This project's own.
use Rattle.std.specs.Prelude.{◌≡◌, ℕ, suc, Bool, true, false, if◌then◌else◌, is_some, List, [], fold, length, None, IsTrue}
use Rattle.opfs_base.specs.Places.{Place, place_of}
use Rattle.opfs_base.specs.Texts.{Text}
use Rattle.opfs_base.specs.declared.extents.Extent.{Extent}
use Rattle.opfs_books.specs.Laws.Books.{Fixed}
use Rattle.opfs_state_rows.specs.Changes.Changed.{tree_by}
use Rattle.opfs_data.specs.Pages.{pages_in}
use Rattle.opfs_data.specs.Rows.{row_of, pages_at, OthersStay}
use Rattle.opfs_hist.specs.declared.entry.Entry.{Entry}
use Rattle.opfs_hist.specs.declared.op.Op.{Op}
use Rattle.opfs_hist.specs.declared.op.Op.TheVariants as op
use Rattle.opfs_machine.specs.declared.own.Own.{Own}
use Rattle.opfs_machine.specs.declared.state.Sizes.{Sizes}
use Rattle.opfs_machine.specs.declared.state.State.{State}
use Rattle.opfs_machine.specs.Agents.{agent_of}
use Rattle.opfs_machine.specs.Replies.{bytes_at}
use Rattle.opfs_machine.specs.Steps.{evicted, is_refusal}
use Rattle.opfs_outside.specs.declared.disk.Disk.{Ghosts as DiskWords}
use Rattle.opfs_records.specs.Replay.Built.{Built}
use Rattle.opfs_space.specs.Files.{extents_in}
use Rattle.opfs_state_rows.specs.Standing.Seen.{lines_of}
use Rattle.opfs_tree.specs.Rows.{Rows as Tree, row_at, IsInOrder}
use Rattle.opfs_desk_steps.specs.Parts.Answered.{IsAnswered}
use Rattle.opfs_desk_steps.specs.Parts.Held.{AreHeldAt}
use Rattle.opfs_desk_steps.specs.Parts.Seen.{machine_in, tree_in}
use Rattle.opfs_desk_steps.specs.declared.parts.parts.Ledger.{Ledger}
use Rattle.opfs_desk_steps.specs.declared.parts.parts.OpenPages.{OpenPages}
use Rattle.opfs_desk_steps.specs.RowLaws.Opening.{IsOpenedOver, Opens}
use Rattle.opfs_desk_steps.specs.RowLaws.Stored.{HasCleared}

abbrev pub opens_row : Op → Bool
opens_row (op.CreateWritable at keep) = true
opens_row (op.CreateSyncAccessHandle at mode) = true
opens_row o = false

-- The extents that the row's pages have: those of its file, or none of a stream that begins empty.
abbrev pub file_extents : Tree → Place → List Extent
file_extents t place = extents_in (row_at place t)

abbrev pub opened_extents : Tree → Op → List Extent
opened_extents t (op.CreateWritable at keep) = if keep then file_extents t (place_of at) else []
opened_extents t (op.CreateSyncAccessHandle at mode) = file_extents t (place_of at)
opened_extents t o = []

-- The bytes that the row has: those of its file, or none.
abbrev pub opened_bytes : State Text Own → Op → Text
opened_bytes s (op.CreateWritable at keep) = if keep then bytes_at s (place_of at) else []
opened_bytes s (op.CreateSyncAccessHandle at mode) = bytes_at s (place_of at)
opened_bytes s o = []

-- The number of the row that an agent makes next.
abbrev pub next_row : State Text Own → ℕ → ℕ
next_row s k = suc (length (agent_of s k).own)

-- The row was opened with pages in the blocks of these extents.
pub record HasRow (p new : OpenPages) (agent row : ℕ) (extents : List Extent) : Type 0 where
  pub others : OthersStay agent row p.swap new.swap
  pub here : is_some (row_of agent row new.swap) ≡ true
  pub pages : pages_at agent row new.swap ≡ pages_in extents

-- A call that opens a row comes now, and its row was opened already.
pub record MayOpen {D : Type 0} (w : DiskWords D) (f : Fixed D) (recorded : Built) (base : State Text Own) (gone : List Text) (l : Ledger D) (p new : OpenPages) (e : Entry) (z : Sizes) : Type 0 where
  pub held : AreHeldAt w f recorded base gone l p
  pub cleared : HasCleared w.tells f.opening l.books.history base gone
  pub lines : lines_of (tree_in l) ≡ (machine_in l).rows
  pub order : IsInOrder (tree_in l)
  pub order_after : IsInOrder (tree_by (machine_in l) (tree_in l) e.agent e.op z None)
  pub answered : IsAnswered w base gone l e z
  pub live : IsTrue (agent_of (fold evicted base gone) e.agent).live
  pub done : is_refusal e.reply ≡ false
  pub opens : opens_row e.op ≡ true
  pub row : HasRow p new e.agent (next_row (fold evicted base gone) e.agent) (opened_extents (tree_in l) e.op)

-- Then it leaves the row open over its pages.
pub record HasOpened {D : Type 0} (w : DiskWords D) (recorded : Built) (s : State Text Own) (l : Ledger D) (p new : OpenPages) (e : Entry) (z : Sizes) : Type 0 where
  pub opens : Opens l p new recorded s e (next_row s e.agent) (opened_extents (tree_in l) e.op) (opened_bytes s e.op) (tree_by (machine_in l) (tree_in l) e.agent e.op z None)
  pub over : IsOpenedOver w l p new e.agent (next_row s e.agent) (opened_extents (tree_in l) e.op) (opened_bytes s e.op)

abbrev pub CallsOpenRows : {D : Type 0} → DiskWords D → Type 0
CallsOpenRows {D} w =
    (f : Fixed D) (recorded : Built) (base : State Text Own) (gone : List Text) (l : Ledger D) (p new : OpenPages) (e : Entry) (z : Sizes)
    → MayOpen w f recorded base gone l p new e z → HasOpened w recorded (fold evicted base gone) l p new e z
