-- What is kept of the parts of the shared store. This project's own.
use Rattle.std.specs.Prelude.{◌≡◌, ℕ, ◌≤◌, true, List, [], length, None, Some}
use Rattle.std.specs.Vec.{vec_capacity}
use Rattle.opfs_base.specs.Texts.{Text}
use Rattle.opfs_books.specs.Laws.Books.{Fixed, AreBooksAt}
use Rattle.opfs_codec.specs.Spelling.{IsText, is_origin_text}
use Rattle.opfs_data.specs.Rows.{kept_count}
use Rattle.opfs_pages.specs.HistoryLaws.Laid.{AreLaid}
use Rattle.opfs_image.specs.Superblock.{data_base, image_size, is_in_range}
use Rattle.opfs_laws.specs.Counting.{key_of}
use Rattle.opfs_machine.specs.declared.own.Own.{Own}
use Rattle.opfs_machine.specs.declared.state.State.{State}
use Rattle.opfs_machine.specs.Histories.{state_after}
use Rattle.opfs_machine.specs.Openings.{Opening}
use Rattle.opfs_outside.specs.Faults.{Rose}
use Rattle.opfs_outside.specs.declared.disk.Disk.{Ghosts as DiskWords}
use Rattle.opfs_records.specs.Replay.Built.{Built}
use Rattle.opfs_desk_steps.specs.Parts.Seen.{machine_in, book_in, shelf_in}
use Rattle.opfs_desk_steps.specs.declared.parts.parts.Ledger.{Ledger}
use Rattle.opfs_desk_steps.specs.declared.parts.parts.OpenPages.{OpenPages}
use Rattle.opfs_desk_steps.specs.declared.parts.parts.DeskParts.{DeskParts}

-- Each agent's key, if it has one, is an origin's text of 1 to 255 bytes, and names no bucket.
abbrev pub HaveOwnKeys : Opening → Type 0
HaveOwnKeys o = (k : ℕ) (key : Text) → key_of o k ≡ Some key → IsText is_origin_text key

-- What ties the parts. The sizes are the image's, the data part lies where the geometry says, within the disk; there is room
-- for all extents that a call may let go; of 64 agents at most each key is an origin's, and their quota is the image's; and pages are kept in memory only once
-- the disk has failed.
pub record AreTied {D : Type 0} (w : DiskWords D) (f : Fixed D) (l : Ledger D) (p : OpenPages) : Type 0 where
  pub range : is_in_range f.geometry ≡ true
  pub base : p.base ≡ data_base f.geometry
  pub size : image_size f.geometry ≤ w.size l.journal.disk
  pub freed : f.geometry.blocks ≤ vec_capacity l.freed
  pub agents : length f.opening.agents ≤ 64
  pub keys : HaveOwnKeys f.opening
  pub quota : f.opening.limits.quota ≡ f.geometry.quota
  pub few : (Rose (w.faults f.begun) (w.faults l.journal.disk) → ⊥) → kept_count p.swap ≡ 0

-- The history, images and counts; the pages and blocks; and what ties them: while a call is made, after these evictions. Where
-- nothing is kept back, the records build the rows as they are stored.
pub record AreHeldAt {D : Type 0} (w : DiskWords D) (f : Fixed D) (recorded : Built) (base : State Text Own) (gone : List Text) (l : Ledger D) (p : OpenPages) : Type 0 where
  pub books : AreBooksAt w f recorded base gone (book_in l) l.journal
  pub laid : AreLaid w.tells f.opening l.books.history p.base (w.content l.journal.disk) (machine_in l) (shelf_in recorded.rows l p) p.space
  pub tied : AreTied w f l p
  pub fresh : l.books.commits.count ≡ 0 → recorded ≡ (book_in l).rows

-- The same between calls, where nothing stands ready for one or may do so still.
abbrev pub AreHeldWhole : {D : Type 0} → DiskWords D → Fixed D → Built → Ledger D → OpenPages → Type 0
AreHeldWhole w f recorded l p = AreHeldAt w f recorded (state_after f.opening l.books.history) [] l p

-- All parts between calls: what the records build is known, and nothing stands ready.
pub record AreHeld {D : Type 0} (w : DiskWords D) (f : Fixed D) (p : DeskParts D) : Type 0 where
  pub recorded : Built
  pub are : AreHeldWhole w f recorded p.ledger p.pages
  pub idle : p.ledger.books.state.store.prepared.place ≡ None
