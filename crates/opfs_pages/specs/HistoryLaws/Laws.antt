-- Laws of pages and blocks through each kind of entry. This project's own.
use Rattle.std.specs.Prelude.{◌≡◌, ℕ, ◌*◌, ◌<◌, ◌≤◌, true, false, nat_eq, List, [], ◌++◌, length, slice_index_or, Option, None, IsTrue, fold}
use Rattle.std.specs.List.{IsDistinct}
use Rattle.std.specs.FinMap.Entries.{put}
use Rattle.opfs_base.specs.Places.{Place, place_cmp}
use Rattle.opfs_base.specs.Texts.{Text}
use Rattle.opfs_base.specs.declared.extents.Extent.{Extent}
use Rattle.opfs_blocks.specs.Sets.{blocks_of, marked}
use Rattle.opfs_data.specs.Pages.{page_of, blank, pages_in, resized, with_writes, AreOnce}
use Rattle.opfs_data.specs.Places.{bytes_of, room_of}
use Rattle.opfs_data.specs.Rows.{Rows, pages_at, IsOther, OthersStay}
use Rattle.opfs_data.specs.Writes.{PageWrite}
use Rattle.opfs_hist.specs.declared.entry.Entry.{Entry}
use Rattle.opfs_hist.specs.declared.op.Op.{Op}
use Rattle.opfs_hist.specs.declared.reply.Reply.{Reply}
use Rattle.opfs_laws.specs.Lengths.Outlines.{in_lengths_of}
use Rattle.opfs_machine.specs.declared.own.Own.{Own}
use Rattle.opfs_machine.specs.declared.state.State.{State}
use Rattle.opfs_machine.specs.Agents.{agent_of}
use Rattle.opfs_machine.specs.Histories.{state_after}
use Rattle.opfs_machine.specs.Openings.{Opening}
use Rattle.opfs_machine.specs.Steps.{after_reply, evicted}
use Rattle.opfs_pages.specs.Copies.{IsBegun}
use Rattle.opfs_records.specs.Replay.Built.{has_block}
use Rattle.opfs_space.specs.Files.{file_has}
use Rattle.opfs_space.specs.Holders.{HasPage, AreMine}
use Rattle.opfs_space.specs.Room.{Machine}
use Rattle.opfs_space.specs.Spaces.{SpaceSeen}
use Rattle.opfs_laws.specs.Steady.Settling.{NoneSettles}
use Rattle.opfs_laws.specs.Steady.Steady.{settles}
use Rattle.opfs_tree.specs.Rows.{Rows as Tree, row_at, extents_of, change_at, IsInOrder}
use Rattle.opfs_tree.specs.declared.row.FileRow.{FileRow}
use Rattle.opfs_tree.specs.declared.row.Row.{Row}
use Rattle.opfs_pages.specs.HistoryLaws.Hands.{row_in_hand}
use Rattle.opfs_pages.specs.HistoryLaws.Open.{open_at, file_in, reserve_in, is_stream, OthersStayOpen}
use Rattle.opfs_pages.specs.HistoryLaws.Putting.{AllReadAlike}
use Rattle.opfs_pages.specs.HistoryLaws.Shelves.{HasSameBlocks, HasSameFiles, KeepsOpen, HasNoMorePages}
use Rattle.opfs_pages.specs.HistoryLaws.Spaced.{Shelf, AreSpaced}
use Rattle.opfs_pages.specs.HistoryLaws.Storing.{IsContentOf, HasFewerFiles}
use Rattle.opfs_pages.specs.HistoryLaws.Told.{AreThere, AreTold, NoOtherSettles, OthersHavePages, OthersReadAlike, HasAllPages, AllAreTold}

-- ---- steady pages

abbrev pub PagesStayThere : Type 0
PagesStayThere =
    (o : Opening) (h more : List Entry) (agent row : ℕ) (old new : Rows) → NoOtherSettles o h more agent row → OthersHavePages old new agent row
    → AreThere o h old → HasAllPages o (h ++ more) new agent row → AreThere o (h ++ more) new

abbrev pub PagesGoOnTelling : Type 0
PagesGoOnTelling =
    (o : Opening) (h more : List Entry) (agent row : ℕ) (old new : Rows) (base : ℕ) (c d : List ℕ) → NoOtherSettles o h more agent row → OthersHavePages old new agent row
    → OthersReadAlike base c d old new agent row → AreThere o h old → AreTold o h base c old → AllAreTold o (h ++ more) base d new agent row → AreTold o (h ++ more) base d new

-- No entry settles any row, and no page goes.
pub record AllGoOn (o : Opening) (h more : List Entry) (old new : Rows) : Type 0 where
  pub none : (k n : ℕ) → NoneSettles (state_after o h) k n more
  pub stay : (k n i : ℕ) → i < length (pages_at k n old) → i < length (pages_at k n new)

pub record PagesAreLeft : Type 0 where
  pub there : (o : Opening) (h more : List Entry) (old new : Rows) → AllGoOn o h more old new → AreThere o h old → AreThere o (h ++ more) new
  pub told : (o : Opening) (h more : List Entry) (old new : Rows) (base : ℕ) (c d : List ℕ) → AllGoOn o h more old new → AllReadAlike base c d old new → AreThere o h old → AreTold o h base c old
      → AreTold o (h ++ more) base d new

-- ---- rows in hand

pub record CallsLeaveOtherRows : Type 0 where
  -- An entry settles no row but the one that its call has in hand.
  pub settled : (s : State Text Own) (e : Entry) (k n : ℕ) → IsOther e.agent (row_in_hand s e.agent e.op) k n → settles s k n e ≡ false
  -- A call leaves all other rows as they are, open or not.
  pub called : (s : State Text Own) (j : ℕ) (op : Op) (told : Reply) → IsTrue (agent_of s j).live
      → OthersStayOpen (in_lengths_of s) (in_lengths_of (after_reply s j op told)) j (row_in_hand s j op)
  -- Evictions leave all.
  pub cleared : (gone : List Text) (s : State Text Own) (k n : ℕ) → open_at (in_lengths_of (fold evicted s gone)) k n ≡ open_at (in_lengths_of s) k n

-- ---- a file's blocks

pub record BlocksTellAFile : Type 0 where
  -- A page with a block of a file begins as the file's bytes.
  pub begun : (c : List ℕ) (base : ℕ) (extents : List Extent) (len i : ℕ) → len ≤ room_of extents → 4096 * i < len → IsBegun (bytes_of c base extents len) i (page_of c base (slice_index_or (pages_in extents) i blank))
  pub count : (extents : List Extent) → 4096 * length (pages_in extents) ≡ room_of extents

pub record TreesKeepBlocks : Type 0 where
  -- Trees whose files have the same blocks name the same.
  pub same : (old new : Tree) → IsInOrder old → IsInOrder new → ((f : Option Place) (b : ℕ) → file_has new f b ≡ file_has old f b) → HasSameBlocks old new
  -- A change that leaves a file's extents leaves all.
  pub changed : (place : Place) (change : FileRow → FileRow) (rows : Tree) → ((f : FileRow) → (change f).extents ≡ f.extents) → (f : Option Place) (b : ℕ) → file_has (change_at place change rows) f b ≡ file_has rows f b
  -- So does a row that comes without bytes.
  pub made : (place : Place) (r : Row) (rows : Tree) → row_at place rows ≡ None → extents_of r ≡ [] → (f : Option Place) (b : ℕ) → file_has (put place_cmp place r rows) f b ≡ file_has rows f b

-- ---- blocks

pub record BlocksGoOn : Type 0 where
  -- Open rows stay, and nothing comes.
  pub stays : (m t : Machine) (s r : Shelf) (space : SpaceSeen) (agent row : ℕ) → AreSpaced m s space → KeepsOpen m t agent row → HasSameFiles s r → HasNoMorePages s r → AreSpaced t r space
  -- A row goes with its pages.
  pub dropped : (m t : Machine) (s r : Shelf) (space : SpaceSeen) (agent row : ℕ) → AreSpaced m s space → OthersStayOpen m t agent row → t.limits ≡ m.limits → HasSameFiles s r → HasNoMorePages s r
      → ((i b : ℕ) → HasPage r.swap agent row i b → ⊥) → AreSpaced t r space
  -- Pages are written into their own blocks, or into free ones that were taken.
  pub written : (m t : Machine) (s r : Shelf) (space : SpaceSeen) (agent row pages : ℕ) (writes : List PageWrite) → AreSpaced m s space → KeepsOpen m t agent row → HasSameFiles s r → OthersStay agent row s.swap r.swap
      → pages_at agent row r.swap ≡ with_writes writes (resized pages (pages_at agent row s.swap)) → AreOnce writes
      → AreMine space.used space.own s.swap agent row (reserve_in (open_at t agent row)) writes → AreSpaced t r space
  -- A row is opened with the blocks of its file.
  pub opened : (m t : Machine) (s r : Shelf) (space : SpaceSeen) (agent row : ℕ) (extents : List Extent) → AreSpaced m s space → OthersStayOpen m t agent row → t.limits ≡ m.limits → HasSameFiles s r
      → OthersStay agent row s.swap r.swap → pages_at agent row r.swap ≡ pages_in extents → IsDistinct nat_eq (blocks_of extents)
      → ((b : ℕ) → has_block (blocks_of extents) b ≡ true → file_has s.tree (file_in (open_at t agent row)) b ≡ true)
      → (is_stream (open_at t agent row) ≡ true → length (blocks_of extents) ≤ reserve_in (open_at t agent row)) → AreSpaced t r space
  -- A content is stored.
  pub stored : (m t : Machine) (s r : Shelf) (agent row : ℕ) (place : Place) (extents : List Extent) (old new : SpaceSeen) → IsContentOf m t s r agent row place extents
      → new ≡ record old { own = marked false (blocks_of extents) old.own } → AreSpaced m s old → AreSpaced t r new
  -- A unit is evicted, something is removed, or what is kept back is recorded.
  pub fewer : (m t : Machine) (s r : Shelf) (space : SpaceSeen) → HasFewerFiles m t s r → AreSpaced m s space → AreSpaced t r space
