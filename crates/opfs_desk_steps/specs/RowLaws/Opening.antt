-- A row that a call opens with the blocks of its file, over parts that are kept. This project's own.
use Rattle.std.specs.Prelude.{◌≡◌, ℕ, ◌≤◌, true, nat_eq, is_some, List, [], ◌∷◌, ◌++◌, fold, length, None, Some, IsTrue}
use Rattle.std.specs.List.{IsDistinct}
use Rattle.opfs_base.specs.Texts.{Text}
use Rattle.opfs_base.specs.declared.extents.Extent.{Extent}
use Rattle.opfs_blocks.specs.Sets.{blocks_of}
use Rattle.opfs_books.specs.Laws.Books.{Fixed}
use Rattle.opfs_data.specs.Pages.{pages_in}
use Rattle.opfs_data.specs.Places.{bytes_of, room_of}
use Rattle.opfs_data.specs.Rows.{row_of, pages_at, OthersStay}
use Rattle.opfs_pages.specs.HistoryLaws.Hands.{row_in_hand}
use Rattle.opfs_pages.specs.HistoryLaws.Laid.{AreLaid}
use Rattle.opfs_pages.specs.HistoryLaws.Open.{open_at, file_in, reserve_in, is_stream}
use Rattle.opfs_pages.specs.HistoryLaws.Shelves.{HasSameFiles}
use Rattle.opfs_hist.specs.declared.entry.Entry.{Entry}
use Rattle.opfs_laws.specs.Lengths.Outlines.{in_lengths_of}
use Rattle.opfs_machine.specs.declared.own.Own.{Own}
use Rattle.opfs_machine.specs.declared.state.State.{State}
use Rattle.opfs_machine.specs.Agents.{agent_of}
use Rattle.opfs_machine.specs.Histories.{evicted_by}
use Rattle.opfs_machine.specs.Steps.{evicted, after_reply}
use Rattle.opfs_outside.specs.declared.disk.Disk.{Ghosts as DiskWords}
use Rattle.opfs_records.specs.Replay.Built.{Built, has_block}
use Rattle.opfs_pages.specs.RowCalls.Plans.{shelf}
use Rattle.opfs_space.specs.Files.{file_has}
use Rattle.opfs_laws.specs.Steady.Steady.{row_bytes}
use Rattle.opfs_tree.specs.Rows.{Rows as Tree}
use Rattle.opfs_desk_steps.specs.Parts.Held.{AreHeldAt}
use Rattle.opfs_desk_steps.specs.Parts.Seen.{tree_in, shelf_in}
use Rattle.opfs_desk_steps.specs.declared.parts.parts.Ledger.{Ledger}
use Rattle.opfs_desk_steps.specs.declared.parts.parts.OpenPages.{OpenPages}

-- The row has a page for each block of these extents, which are enough for its bytes, and have them where the disk tells. All
-- else is as it was.
pub record IsOpenedOver {D : Type 0} (w : DiskWords D) (l : Ledger D) (p new : OpenPages) (agent row : ℕ) (extents : List Extent) (bytes : Text) : Type 0 where
  pub others : OthersStay agent row p.swap new.swap
  pub here : is_some (row_of agent row new.swap) ≡ true
  pub pages : pages_at agent row new.swap ≡ pages_in extents
  pub room : length bytes ≤ room_of extents
  pub told : w.tells → bytes_of (w.content l.journal.disk) p.base extents (length bytes) ≡ bytes

-- A call opens the row, after these evictions, and leaves it with these bytes. The tree has the same blocks as before; those of
-- the row are of its file, each once, and a stream keeps as many.
pub record Opens {D : Type 0} (l : Ledger D) (p new : OpenPages) (recorded : Built) (s : State Text Own) (e : Entry) (row : ℕ) (extents : List Extent) (bytes : Text) (tree : Tree) : Type 0 where
  pub plain : evicted_by e.op ≡ None
  pub limits : (after_reply s e.agent e.op e.reply).limits ≡ s.limits
  pub live : IsTrue (agent_of s e.agent).live
  pub in_hand : row_in_hand s e.agent e.op ≡ row
  pub opened : row_bytes (after_reply s e.agent e.op e.reply) e.agent row ≡ Some bytes
  pub files : HasSameFiles (shelf_in recorded.rows l p) (shelf recorded.rows tree new.swap)
  pub once : IsDistinct nat_eq (blocks_of extents)
  pub of_file : (b : ℕ) → has_block (blocks_of extents) b ≡ true → file_has (tree_in l) (file_in (open_at (in_lengths_of (after_reply s e.agent e.op e.reply)) e.agent row)) b ≡ true
  pub kept : is_stream (open_at (in_lengths_of (after_reply s e.agent e.op e.reply)) e.agent row) ≡ true
      → length (blocks_of extents) ≤ reserve_in (open_at (in_lengths_of (after_reply s e.agent e.op e.reply)) e.agent row)

abbrev pub OpenedRowsAreLaid : {D : Type 0} → DiskWords D → Type 0
OpenedRowsAreLaid {D} w =
    (f : Fixed D) (recorded : Built) (base : State Text Own) (gone : List Text) (l : Ledger D) (p new : OpenPages) (e : Entry) (row : ℕ) (extents : List Extent) (bytes : Text) (tree : Tree)
    → AreHeldAt w f recorded base gone l p → Opens l p new recorded (fold evicted base gone) e row extents bytes tree → IsOpenedOver w l p new e.agent row extents bytes
    → AreLaid w.tells f.opening (l.books.history ++ e ∷ []) p.base (w.content l.journal.disk) (in_lengths_of (after_reply (fold evicted base gone) e.agent e.op e.reply)) (shelf recorded.rows tree new.swap) p.space
