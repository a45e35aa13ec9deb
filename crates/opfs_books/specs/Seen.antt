-- The books as they are seen, and what is asked of them before a call. This project's own.
use Rattle.std.specs.Prelude.{◌≡◌, ℕ, List, ◌∷◌, ◌++◌, fold, Option, Ok}
use Rattle.opfs_base.specs.Texts.{Text}
use Rattle.opfs_books.specs.Stored.Spelled.{bytes_stored, stored_built, CanHold}
use Rattle.opfs_codec.specs.Spelling.{IsChange}
use Rattle.opfs_codec.specs.declared.change.Change.{Change as Spelled}
use Rattle.opfs_codec.specs.declared.change.Format.TheVariants.{New}
use Rattle.opfs_commit.specs.Making.{told_as, new_bytes}
use Rattle.opfs_image.specs.Superblock.{data_base}
use Rattle.opfs_machine.specs.Changes.{Change}
use Rattle.opfs_books.specs.Laws.Books.{Fixed, Book, IsNext, IsPlaced, AreBooks, AreBooksAt}
use Rattle.opfs_books.specs.Laws.Laws.{failed, told, doubt, ShowsTold}
use Rattle.opfs_books.specs.declared.books.Books.{Books}
use Rattle.opfs_books.specs.declared.sharing.shared.Shared.{Ghosts as SharedWords}
use Rattle.opfs_commit.specs.Seen.{KeptBack}
use Rattle.opfs_hist.specs.declared.entry.Entry.{Entry}
use Rattle.opfs_laws.specs.Histories.Unread.{ArePendingFor}
use Rattle.opfs_journal.specs.Seen.{Seen}
use Rattle.opfs_laws.specs.Lengths.Kept.{Kept}
use Rattle.opfs_machine.specs.declared.own.Own.{Own}
use Rattle.opfs_machine.specs.declared.state.Need.{Need}
use Rattle.opfs_machine.specs.declared.state.Sizes.{Sizes}
use Rattle.opfs_machine.specs.declared.state.State.{State}
use Rattle.opfs_machine.specs.Contents.{in_lengths}
use Rattle.opfs_machine.specs.Histories.{IsCall, state_after}
use Rattle.opfs_machine.specs.Replies.{sizes_of}
use Rattle.opfs_machine.specs.Rulings.{ruling}
use Rattle.opfs_machine.specs.Steps.{evicted, step}
use Rattle.opfs_outside.specs.declared.disk.Disk.{Ghosts as DiskWords}
use Rattle.opfs_records.specs.Replay.Built.{Built}
use Rattle.opfs_state_rows.specs.Standing.Seen.{Machine}
use Rattle.opfs_tree.specs.Rows.{Rows}

-- The books with these parts.
abbrev pub book : List Entry → Machine → Rows → KeptBack → Option ℕ → Book
book h m t back place = record { entries = h; machine = m; rows = stored_built t m.persistent; back = back; place = place }

abbrev pub book_of : {S : Type 0} → SharedWords S → Books S → Book
book_of w b = book b.history (w.machine b.state) (w.tree b.state) b.commits b.place

-- The books are kept.
pub record AreKnown {D : Type 0} (w : DiskWords D) (b : Book) (j : Seen D) : Type 0 where
  pub fixed : Fixed D
  pub recorded : Built
  pub base : State Text Own
  pub gone : List Text
  pub are : AreBooksAt w fixed recorded base gone b j

-- A call is not refused, and has a place in the history.
pub record MayAnswer (b : Book) (e : Entry) (z : Sizes) : Type 0 where
  pub kept : Kept b.machine
  pub need : Need
  pub ruled : ruling in_lengths b.machine z e.agent e.op ≡ Ok need
  pub placed : IsPlaced b.entries e.agent

-- And its entry may come now, with these sizes of the row that it names.
pub record MayCome {D : Type 0} (w : DiskWords D) (b : Book) (j : Seen D) (e : Entry) (z : Sizes) : Type 0 where
  pub known : AreKnown w b j
  pub next : IsNext w.tells known.base known.gone e
  pub sizes : z ≡ sizes_of (fold evicted known.base known.gone) e.agent e.op

-- A unit is the next that is cleared for a call, and the call may meet a disk fault now.
pub record IsVictim (base : State Text Own) (gone : List Text) (e : Entry) (unit : Text) : Type 0 where
  pub fault : IsCall base gone (failed e)
  pub rest : List Text
  pub victims : (step base e.agent e.op).victims ≡ gone ++ unit ∷ rest

-- A change can be stored as it is spelled: it has a spelling that is read, and the blocks of a content are free of other files.
pub record MayStore {D : Type 0} (f : Fixed D) (b : Book) (own : Spelled) : Type 0 where
  pub again : IsChange New own
  pub holds : CanHold f.geometry.blocks own b.rows

-- A call that stores this may come now.
pub record MayCommitCall {D : Type 0} (w : DiskWords D) (b : Book) (j : Seen D) (e : Entry) (z : Sizes) (own : Spelled) : Type 0 where
  pub come : MayCome w b j e z
  pub stores : MayStore come.known.fixed b own

-- What a call stores, as it is told.
abbrev pub stored_change : State Text Own → List Text → Entry → Spelled → Change
stored_change base gone e own = told_as (bytes_stored (fold evicted base gone) e.agent e.op) own

-- The disk has the bytes of the content that a call stores, where it tells.
abbrev pub BytesStand : {D : Type 0} → DiskWords D → Fixed D → State Text Own → List Text → Seen D → Entry → Spelled → Type 0
BytesStand w f base gone j e own = w.tells → told_as (new_bytes (data_base f.geometry) (w.content j.disk) own) own ≡ stored_change base gone e own

-- An agent's pending calls may be taken in, between two calls.
pub record MayTakeIn {D : Type 0} (w : DiskWords D) (b : Book) (j : Seen D) (k : ℕ) (es : List Entry) : Type 0 where
  pub fixed : Fixed D
  pub recorded : Built
  pub are : AreBooks w fixed recorded b j
  pub pending : ArePendingFor w.tells (state_after fixed.opening b.entries) k es

-- What the end of a run leaves of the books, and what the images show in it.
pub record IsFinished {D : Type 0} (w : DiskWords D) (f : Fixed D) (base : State Text Own) (gone : List Text) (b new : Book) (old j : Seen D) : Type 0 where
  pub after : Built
  pub are : AreBooksAt w f after base gone new j
  pub shown : ShowsTold w f b (told f b ++ doubt f b old) old j
