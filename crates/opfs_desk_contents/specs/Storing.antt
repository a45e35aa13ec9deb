-- A content that is stored, and the call that is entered with it. This project's own.
use Rattle.std.specs.Prelude.{◌≡◌, ℕ, ◌+◌, ◌*◌, ◌<◌, ◌≤◌, true, List, [], ◌∷◌, ◌++◌, length, Option, Some, None, IsTrue}
use Rattle.std.specs.List.{AllByRecursion}
use Rattle.opfs_base.specs.Blocks.{blocks}
use Rattle.opfs_base.specs.Places.{Place}
use Rattle.opfs_base.specs.Texts.{Text}
use Rattle.opfs_base.specs.declared.extents.Extent.{Extent}
use Rattle.opfs_blocks.specs.Sets.{blocks_of}
use Rattle.opfs_books.specs.Stored.Spelled.{bytes_stored, spelled_by, CanHold}
use Rattle.opfs_books.specs.Laws.Books.{Fixed, AreBooks}
use Rattle.opfs_books.specs.Laws.Laws.{LeavesPages, failed}
use Rattle.opfs_books.specs.Seen.{BytesStand}
use Rattle.opfs_state_rows.specs.Changes.Changed.{freed_in, tree_by}
use Rattle.opfs_codec.specs.Spelling.{AreExtents}
use Rattle.opfs_codec.specs.declared.change.Change.{Change as Spelled}
use Rattle.opfs_codec.specs.declared.change.Change.TheVariants.{Content}
use Rattle.opfs_data.specs.Pages.{page_of}
use Rattle.opfs_data.specs.Places.{bytes_of}
use Rattle.opfs_data.specs.Rows.{Rows, page_at}
use Rattle.opfs_pages.specs.HistoryLaws.Open.{open_at, file_in}
use Rattle.opfs_hist.specs.declared.entry.Entry.{Entry}
use Rattle.opfs_machine.specs.declared.own.Own.{Own}
use Rattle.opfs_machine.specs.declared.state.Sizes.{Sizes}
use Rattle.opfs_machine.specs.declared.state.State.{State}
use Rattle.opfs_machine.specs.Agents.{counted}
use Rattle.opfs_machine.specs.Contents.{in_lengths}
use Rattle.opfs_machine.specs.Effects.{effect}
use Rattle.opfs_machine.specs.Histories.{IsCall, state_after}
use Rattle.opfs_outside.specs.declared.disk.Disk.{Ghosts as DiskWords}
use Rattle.opfs_pages.specs.Copies.{IsBegun}
use Rattle.opfs_pages.specs.declared.writing.put.Put.{Put}
use Rattle.opfs_records.specs.Replay.Built.{Built, block_count, has_block, is_once}
use Rattle.opfs_pages.specs.RowCalls.Rows.{ArePlain}
use Rattle.opfs_records.specs.Checkpoint.Written.{IsWritablePlace}
use Rattle.opfs_space.specs.Holders.{HasPage}
use Rattle.opfs_tree.specs.Rows.{IsInOrder, file_at as file_in_tree}
use Rattle.opfs_tree.specs.declared.row.FileRow.{FileRow}
use Rattle.opfs_desk_entries.specs.KeptBack.Changing.{HasNotChanged, IsChangeShown}
use Rattle.opfs_work.specs.Works.{WorkingCopy}
use Rattle.opfs_desk_steps.specs.Parts.Acted.{AreCleared}
use Rattle.opfs_desk_steps.specs.Parts.Answered.{IsAnswered, MayAnswer}
use Rattle.opfs_desk_steps.specs.Parts.Held.{AreHeldAt, AreHeldWhole, AreTied}
use Rattle.opfs_desk_steps.specs.Parts.Seen.{machine_in, tree_in, book_in}
use Rattle.opfs_desk_steps.specs.declared.parts.parts.Ledger.{Ledger}
use Rattle.opfs_desk_steps.specs.declared.parts.parts.OpenPages.{OpenPages}
use Rattle.opfs_desk_steps.specs.declared.parts.parts.DeskParts.{DeskParts}
use Rattle.opfs_desk_contents.specs.Putting.{HasContent, IsReadyToPut, IsRowToPut, KeepsEnough}
use Rattle.opfs_desk_contents.specs.Rows.{StoresFile}
use Rattle.opfs_desk_contents.specs.Words.{size_stored, stamp_stored}

-- The change: the file at a place has so many bytes, in these runs of blocks.
abbrev pub content_now : {D : Type 0} → Ledger D → Entry → Place → FileRow → ℕ → List Extent → Spelled
content_now l e place row size runs = Content place.0 place.1 (stamp_stored (machine_in l) e.agent e.op row) size runs

-- A call that stores it may be entered: the file is there, and the runs are no other file's.
pub record MayStoreContent {D : Type 0} (w : DiskWords D) (l : Ledger D) (e : Entry) (z : Sizes) (place : Place) (size : ℕ) (runs : List Extent) (extents : Option (List Extent)) : Type 0 where
  pub answer : MayAnswer w l e z
  pub row : FileRow
  pub there : file_in_tree place (tree_in l) ≡ Some row
  pub spelled : spelled_by (machine_in l) (tree_in l) e.agent e.op z extents ≡ Some (content_now l e place row size runs)
  pub written : IsWritablePlace place
  pub runs_are : AreExtents runs
  pub holds : CanHold answer.fixed.geometry.blocks (content_now l e place row size runs) (book_in l).rows

-- It was committed, and the call entered, and what it let go is told: the records build the rows as they are stored.
pub record HasStored {D : Type 0} (w : DiskWords D) (f : Fixed D) (base : State Text Own) (gone : List Text) (old new : Ledger D) (p : OpenPages) (e : Entry) (z : Sizes) (extents : Option (List Extent)) (own : Spelled) : Type 0 where
  pub entries : new.books.history ≡ old.books.history ++ e ∷ []
  pub machine : machine_in new ≡ counted (effect in_lengths (machine_in old) z e.agent e.op) e.agent
  pub tree : tree_in new ≡ tree_by (machine_in old) (tree_in old) e.agent e.op z extents
  pub idle : new.books.state.store.prepared.place ≡ None
  pub freed : new.freed.items ≡ freed_in (machine_in old) (tree_in old) e.agent e.op extents
  pub books : AreBooks w f (book_in new).rows (book_in new) new.journal
  pub tied : AreTied w f new p
  pub leaves : LeavesPages w old.journal new.journal
  pub shown : IsChangeShown w f base gone old new e own

-- A call is entered with a content over parts that are kept, after some evictions: its file is there, the content can be held, and its
-- bytes are on the disk.
pub record IsEnteredOver {D : Type 0} (w : DiskWords D) (f : Fixed D) (recorded : Built) (base : State Text Own) (gone : List Text) (l : Ledger D) (p : OpenPages) (e : Entry) (z : Sizes) (place : Place) (row : FileRow) (own : Spelled) : Type 0 where
  pub are : AreHeldAt w f recorded base gone l p
  pub answered : IsAnswered w base gone l e z
  pub there : file_in_tree place (tree_in l) ≡ Some row
  pub holds : CanHold f.geometry.blocks own (book_in l).rows
  pub stands : BytesStand w f base gone l.journal e own

-- The content is stored and the call entered, over whatever parts this was. The rows of the tree are in order.
pub record HasEnteredContent {D : Type 0} (w : DiskWords D) (old new : Ledger D) (e : Entry) (z : Sizes) (place : Place) (size : ℕ) (runs : List Extent) (extents : Option (List Extent)) : Type 0 where
  pub order : IsInOrder (tree_in new)
  pub over : (f : Fixed D) (recorded : Built) (base : State Text Own) (gone : List Text) (p : OpenPages) (row : FileRow) → IsEnteredOver w f recorded base gone old p e z place row (content_now old e place row size runs)
      → HasStored w f base gone old new p e z extents (content_now old e place row size runs)

-- The disk failed, and the call is entered so, over whatever parts this was.
pub record HasFailedContent {D : Type 0} (w : DiskWords D) (old new : Ledger D) (e : Entry) (z : Sizes) (place : Place) (size : ℕ) (runs : List Extent) : Type 0 where
  pub over : (f : Fixed D) (recorded : Built) (base : State Text Own) (gone : List Text) (p : OpenPages) (row : FileRow) → IsEnteredOver w f recorded base gone old p e z place row (content_now old e place row size runs)
      → HasNotChanged w f recorded base gone old new p e (content_now old e place row size runs)

-- The runs are those of a row's pages: no block twice, and where all pages have their blocks, with the row's bytes.
pub record AreRunsOf (swap : Rows) (agent row pages : ℕ) (runs : List Extent) : Type 0 where
  pub of_row : (b : ℕ) → has_block (blocks_of runs) b ≡ true → (i : ℕ) × HasPage swap agent row i b
  pub once : ((i j b : ℕ) → HasPage swap agent row i b → HasPage swap agent row j b → i ≡ j) → IsTrue (is_once (blocks_of runs))
  pub some : AllByRecursion (λ e. 0 < e.count) runs
  pub below : (size : ℕ) → ((i b : ℕ) → HasPage swap agent row i b → b < size) → AllByRecursion (λ e. e.start + e.count ≤ size) runs
  pub few : length runs ≤ pages
  pub count : ArePlain swap agent row pages → block_count runs ≡ pages
  pub bytes : ArePlain swap agent row pages → (c : List ℕ) (base : ℕ) (bytes : Text) → pages ≡ blocks (length bytes) → ((i : ℕ) → 4096 * i < length bytes → IsBegun bytes i (page_of c base (page_at agent row i swap)))
      → bytes_of c base runs (length bytes) ≡ bytes

-- A row's content may be stored: its pages may be put, and the call's entry may come.
pub record StoresContent {D : Type 0} (w : DiskWords D) (f : Fixed D) (l : Ledger D) (p : OpenPages) (e : Entry) (z : Sizes) (agent row : ℕ) (put : Put) (place : Place) (work : WorkingCopy) (bytes : Text) : Type 0 where
  pub of_row : IsRowToPut w f l p agent row put work bytes
  pub answered : IsAnswered w (state_after f.opening l.books.history) [] l e z
  pub fault : IsCall (state_after f.opening l.books.history) [] (failed e)
  pub stored : bytes_stored (state_after f.opening l.books.history) e.agent e.op ≡ bytes
  pub size : (file : FileRow) → file_in_tree place (tree_in l) ≡ Some file → work.length ≡ size_stored z e.op file

pub record MayStorePages {D : Type 0} (w : DiskWords D) (p : DeskParts D) (e : Entry) (z : Sizes) (agent row : ℕ) (put : Put) (place : Place) (work : WorkingCopy) : Type 0 where
  pub fixed : Fixed D
  pub recorded : Built
  pub bytes : Text
  pub are : AreHeldWhole w fixed recorded p.ledger p.pages
  pub ready : IsReadyToPut w recorded.rows p.ledger p.pages agent row put
  pub enough : KeepsEnough p.ledger agent row put.pages
  pub stores : StoresContent w fixed p.ledger p.pages e z agent row put place work bytes
  pub reserve : ℕ
  pub file : StoresFile (machine_in p.ledger) e.agent e.op place reserve
  pub opened : file_in (open_at (machine_in p.ledger) agent row) ≡ Some place
  pub row_of : FileRow
  pub there : file_in_tree place (tree_in p.ledger) ≡ Some row_of

-- It was put and stored, from ledgers on the way on over the same pages.
pub record HasStoredPages {D : Type 0} (w : DiskWords D) (f : Fixed D) (old new : DeskParts D) (e : Entry) (z : Sizes) (agent row pages : ℕ) (place : Place) (runs : List Extent) (bytes : Text) : Type 0 where
  pub back : Ledger D
  pub cleared : AreCleared w f [] old.ledger back new.pages
  pub entries : back.books.history ≡ old.ledger.books.history
  pub state : back.books.state ≡ old.ledger.books.state
  pub content : HasContent w.tells new.pages.base (w.content back.journal.disk) new.pages.swap agent row pages bytes
  pub runs_are : AreRunsOf new.pages.swap agent row pages runs
  pub file : FileRow
  pub there : file_in_tree place (tree_in back) ≡ Some file
  pub stored : HasStored w f (state_after f.opening old.ledger.books.history) [] back new.ledger new.pages e z (Some runs) (content_now back e place file (length bytes) runs)
  pub order : IsInOrder (tree_in back)
  pub order_now : IsInOrder (tree_in new.ledger)
