-- A row whose pages are put: what they were planned for. This project's own.
use Rattle.std.specs.Prelude.{◌≡◌, ℕ, ◌<◌, Bool, true, List, length}
use Rattle.opfs_base.specs.Blocks.{blocks}
use Rattle.opfs_base.specs.Texts.{Text}
use Rattle.opfs_data.specs.Pages.{page_of, is_plain}
use Rattle.opfs_data.specs.Rows.{Rows, pages_at, page_at}
use Rattle.opfs_data.specs.Writes.{WriteList}
use Rattle.opfs_pages.specs.Copies.{IsCopy, AreHeld}
use Rattle.opfs_pages.specs.Stages.{changed}
use Rattle.opfs_work.specs.Works.{WorkingCopy}
use Rattle.opfs_pages.specs.RowCalls.Plans.{IsStagedFor}

-- What a call does to the bytes of a row: it writes bytes at a position, and leaves a size; or all is to be stored as a content.
pub record Change : Type 0 where
  pub at : ℕ
  pub given : List ℕ
  pub size : ℕ
  pub whole : Bool

-- The pages of a put were planned by a working copy, over pages that read now as they did then. The working copy and the store
-- had bytes of the row then, and the call leaves others.
pub record IsPutOf (tells : Type 0) (work : WorkingCopy) (c : List ℕ) (base : ℕ) (swap : Rows) (agent row : ℕ) (call : Change) (w : WriteList) (before after : Text) : Type 0 where
  pub was : Rows
  pub content : List ℕ
  pub staged : IsStagedFor tells work content base was agent row call.at call.given call.size call.whole w
  pub same : pages_at agent row swap ≡ pages_at agent row was
  pub alike : tells → (i : ℕ) → page_of c base (page_at agent row i swap) ≡ page_of content base (page_at agent row i was)
  pub paged : length work.pages ≡ blocks work.length
  pub copy : tells → IsCopy before work
  pub held : tells → AreHeld before work content base (pages_at agent row was)
  pub after_is : changed before call.at call.given call.size ≡ after

-- A row has so many pages, each with a block and nothing kept of it.
pub record ArePlain (swap : Rows) (agent row pages : ℕ) : Type 0 where
  pub count : length (pages_at agent row swap) ≡ pages
  pub plain : (i : ℕ) → i < pages → is_plain (page_at agent row i swap) ≡ true
